-- Verbs that are applied to what other verbs give, or to arguments that are given beforehand.
use Rattle.std.specs.Prelude.{Option, Some, None}
use Rattle.j_definitions.specs.Array.{Array}
use Rattle.j_definitions.specs.declared.Fault.TheVariants.{Nonce}
use Rattle.j_leaves.specs.declared.primitive.Primitive.{Primitive}
use Rattle.j_entity.specs.Tree.{OperandTree, verb, noun, rank_list}
use Rattle.j_entity.specs.Ranks.{primitive_ranks}
use Rattle.j_trains.specs.Obverses.{obverse_word}
use Rattle.j_verbs.specs.ByRank.{Doing, by_ranks}
use Rattle.j_verbs.specs.State.{◌>>=◌, fail}
use Rattle.j_eval.specs.Operands.{Operand, unformed}
use Rattle.j_eval.specs.RunVerbs.{spoken}
use Rattle.j_eval.specs.Trains.{left_of}

-- `u@v` and `u@:v`: u on what v gives. They differ in their ranks.
abbrev pub at : Operand → Operand → Doing
at u v x y = do
  r ← v.does x y
  u.does None r

-- `u&v` and `u&:v`: u on what v gives of each argument, the right one first
abbrev pub over : Operand → Operand → Doing
over u v None y = at u v None y
over u v (Some x) y = do
  b ← v.does None y
  a ← v.does None x
  u.does (Some a) b

-- what a word does, if there is one
abbrev pub word_does : Option Primitive → Doing
word_does (Some p) x y = by_ranks (primitive_ranks p) (spoken p) x y
word_does None x y = unformed x y

-- the obverse of an operand, which is a word
abbrev pub operand_obverse : OperandTree → Option Primitive
operand_obverse (verb v) = obverse_word v
operand_obverse (noun n) = None
operand_obverse (rank_list l) = None

-- `u&.v`: as `u&v`, and then the obverse of v
abbrev pub under : Operand → Operand → Doing
under u v x y = do
  r ← over u v x y
  word_does (operand_obverse v.tree) None r

-- `m&v`: m on the left of v. There is no dyad yet.
abbrev pub left_bound : Array → Operand → Doing
left_bound m v None y = v.does (Some m) y
left_bound m v (Some x) y = fail Nonce

-- `u&n`: n on the right of u. There is no dyad yet.
abbrev pub right_bound : Operand → Array → Doing
right_bound u n None y = u.does (Some y) n
right_bound u n (Some x) y = fail Nonce

abbrev pub bond_of : OperandTree → OperandTree → Operand → Operand → Doing
bond_of (verb f) (verb g) u v = over u v
bond_of (noun m) (verb g) u v = left_bound m v
bond_of (verb f) (noun n) u v = right_bound u n
bond_of (verb f) (rank_list l) u v = unformed
bond_of (noun m) (noun n) u v = unformed
bond_of (noun m) (rank_list l) u v = unformed
bond_of (rank_list l) t u v = unformed

-- `&`
abbrev pub bond : Operand → Operand → Doing
bond u v = bond_of u.tree v.tree u v

-- `u~`: the argument on both sides, or the two swapped
abbrev pub passive : Operand → Doing
passive u x y = u.does (Some y) (left_of x y)
