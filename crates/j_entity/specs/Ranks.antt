-- The ranks of a verb.
use Rattle.std.specs.Prelude.{ℕ, pos, negsuc, ◌+◌, ◌==◌, cond, Bool, true, false, List, [], ◌∷◌, map}
use Rattle.j_definitions.specs.Array.{Array, Atom, number, byte, nested}
use Rattle.j_leaves.specs.declared.primitive.Primitive.{Primitive}
use Rattle.j_leaves.specs.declared.primitive.Primitive.TheVariants as p
use Rattle.j_leaves.specs.declared.modifier.Modifier.{Modifier}
use Rattle.j_leaves.specs.declared.modifier.Modifier.TheVariants as m
use Rattle.j_leaves.specs.declared.ranks.Ranks.{Ranks}
use Rattle.j_noun.specs.declared.ranks.Rank.{Rank}
use Rattle.j_noun.specs.declared.ranks.Rank.TheVariants.{Number, Infinite}
use Rattle.j_noun.specs.declared.ranks.RankPart.{RankPart}
use Rattle.j_noun.specs.declared.ranks.RankPart.TheVariants as part
use Rattle.j_entity.specs.Tree.{VerbTree, OperandTree, primitive, named, fork, noun_fork, hook, derived, derived2, explicit, explicit1, explicit2, verb, noun, rank_list}

-- the ranks of the one argument, of the left and of the right one
abbrev pub three : Rank → Rank → Rank → Ranks
three m l r = record { monad = m; left = l; right = r }

abbrev pub same : Rank → Ranks
same r = three r r r

abbrev pub endless : Ranks
endless = same Infinite

abbrev pub of : ℕ → Rank
of n = Number (pos n)

-- A valence that a word doesn't have is of infinite rank.
abbrev pub primitive_ranks : Primitive → Ranks
primitive_ranks p.Plus = same (of 0)
primitive_ranks p.Minus = same (of 0)
primitive_ranks p.Times = same (of 0)
primitive_ranks p.Divide = same (of 0)
primitive_ranks p.Power = three Infinite (of 0) (of 0)
primitive_ranks p.Residue = same (of 0)
primitive_ranks p.LesserOf = same (of 0)
primitive_ranks p.GreaterOf = same (of 0)
primitive_ranks p.LessEqual = same (of 0)
primitive_ranks p.GreaterEqual = same (of 0)
primitive_ranks p.Double = same (of 0)
primitive_ranks p.Square = same (of 0)
primitive_ranks p.Or = three Infinite (of 0) (of 0)
primitive_ranks p.And = three Infinite (of 0) (of 0)
primitive_ranks p.Not = three (of 0) Infinite Infinite
primitive_ranks p.Halve = three (of 0) Infinite Infinite
primitive_ranks p.Less = three Infinite (of 0) (of 0)
primitive_ranks p.Greater = same (of 0)
primitive_ranks p.Equal = three Infinite (of 0) (of 0)
primitive_ranks p.NotEqual = three Infinite (of 0) (of 0)
primitive_ranks p.Shape = three Infinite (of 1) Infinite
primitive_ranks p.Words = three (of 1) Infinite Infinite
primitive_ranks p.Tally = three Infinite (of 1) Infinite
primitive_ranks p.Base = same (of 1)
primitive_ranks p.Antibase = three Infinite (of 1) (of 0)
primitive_ranks p.Reverse = three Infinite (of 1) Infinite
primitive_ranks p.Transpose = three Infinite (of 1) Infinite
primitive_ranks p.Take = three Infinite (of 1) Infinite
primitive_ranks p.Drop = three Infinite (of 1) Infinite
primitive_ranks p.From = three (of 1) (of 0) Infinite
primitive_ranks p.IndexOf = three (of 1) Infinite Infinite
primitive_ranks p.LastIndexOf = three (of 0) Infinite Infinite
primitive_ranks p.Indices = three (of 1) Infinite Infinite
primitive_ranks _ = endless

-- one rank for all, two for the left and the other ones, or three
abbrev pub listed_ranks : List Rank → Ranks
listed_ranks (a ∷ []) = same a
listed_ranks (a ∷ b ∷ []) = three b a b
listed_ranks (a ∷ b ∷ c ∷ []) = three a b c
listed_ranks _ = endless

abbrev pub rank_of_part : RankPart → Rank
rank_of_part (part.Number n) = Number n
rank_of_part part.Infinite = Infinite

-- the numbers among atoms, as ranks
abbrev pub numbers_in : List Atom → List Rank
numbers_in [] = []
numbers_in (number n ∷ xs) = Number n ∷ numbers_in xs
numbers_in (byte b ∷ xs) = numbers_in xs
numbers_in (nested k s r ∷ xs) = numbers_in xs

abbrev pub of_list : List ℕ → Ranks → Ranks
of_list [] r = r
of_list (n ∷ []) r = r
of_list (n ∷ m ∷ s) r = endless

-- the ranks that a noun says: an atom or a list of one to three numbers
abbrev pub noun_ranks : Array → Ranks
noun_ranks y = of_list y.shape (listed_ranks (numbers_in y.atoms))

abbrev pub one_more : Rank → Rank
one_more (Number (pos n)) = cond (n == 9223372036854775807) Infinite (Number (pos (n + 1)))
one_more (Number (negsuc n)) = Infinite
one_more Infinite = Infinite

abbrev pub bond_ranks : Bool → Ranks → Ranks
bond_ranks true v = same v.monad
bond_ranks false v = endless

-- The ranks that a modifier gives: from those of its operands, from those that its right operand says, and whether both are verbs.
abbrev pub derived_ranks : Modifier → Ranks → Ranks → Ranks → Bool → Ranks
derived_ranks m.Insert u v said verbs = endless
derived_ranks m.Prefix u v said verbs = three Infinite (of 0) Infinite
derived_ranks m.Suffix u v said verbs = three Infinite (of 0) Infinite
derived_ranks m.Oblique u v said verbs = endless
derived_ranks m.Cut u v said verbs = three Infinite (of 1) Infinite
derived_ranks m.Passive u v said verbs = three Infinite u.right u.left
derived_ranks m.Amend u v said verbs = endless
derived_ranks m.Rank u v said verbs = said
derived_ranks m.Atop u v said verbs = v
derived_ranks m.At u v said verbs = endless
derived_ranks m.Bond u v said verbs = bond_ranks verbs v
derived_ranks m.Appose u v said verbs = endless
derived_ranks m.Under u v said verbs = same v.monad
derived_ranks m.PowerOf u v said verbs = endless
derived_ranks m.Product u v said verbs = three Infinite (one_more v.left) Infinite
derived_ranks m.Adverse u v said verbs = endless
derived_ranks m.Monadic u v said verbs = three u.monad v.left v.right

abbrev pub are_verbs : OperandTree → OperandTree → Bool
are_verbs (verb u) (verb v) = true
are_verbs (verb u) (noun n) = false
are_verbs (verb u) (rank_list l) = false
are_verbs (noun m) v = false
are_verbs (rank_list l) v = false

abbrev mutual
  pub verb_ranks : VerbTree → Ranks
  verb_ranks (primitive p) = primitive_ranks p
  verb_ranks (named n r) = r
  verb_ranks (fork f g h) = endless
  verb_ranks (noun_fork n g h) = endless
  verb_ranks (hook g h) = endless
  verb_ranks (derived m u) = derived_ranks m (operand_ranks u) endless endless false
  verb_ranks (derived2 m u v) = derived_ranks m (operand_ranks u) (operand_ranks v) (said_ranks v) (are_verbs u v)
  verb_ranks (explicit b) = endless
  verb_ranks (explicit1 b u) = endless
  verb_ranks (explicit2 b u v) = endless

  pub operand_ranks : OperandTree → Ranks
  operand_ranks (verb v) = verb_ranks v
  operand_ranks (noun n) = endless
  operand_ranks (rank_list l) = endless

  -- the ranks that the right operand of `"` says
  pub said_ranks : OperandTree → Ranks
  said_ranks (verb v) = verb_ranks v
  said_ranks (noun n) = noun_ranks n
  said_ranks (rank_list l) = listed_ranks (map rank_of_part l)
