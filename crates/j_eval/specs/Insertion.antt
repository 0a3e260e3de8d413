-- A verb between items, and on all pairs of cells.
use Rattle.std.specs.Prelude.{ℕ, ℤ, List, [], ◌∷◌, drop, replicate, Option, Some, None, Result, Err}
use Rattle.j_definitions.specs.Array.{Array, number, product}
use Rattle.j_definitions.specs.Limits.{limited}
use Rattle.j_definitions.specs.declared.Fault.{Fault}
use Rattle.j_definitions.specs.declared.Fault.TheVariants.{Domain, Nonce}
use Rattle.j_definitions.specs.declared.Kind.TheVariants.{Number}
use Rattle.j_leaves.specs.declared.ranks.Ranks.{Ranks}
use Rattle.j_noun.specs.declared.ranks.Rank.TheVariants.{Infinite}
use Rattle.j_entity.specs.Tree.{VerbTree, OperandTree, primitive, named, fork, noun_fork, hook, derived, derived2, explicit, explicit1, explicit2, verb, noun, rank_list}
use Rattle.j_entity.specs.Ranks.{one_more, operand_ranks, three}
use Rattle.j_insert.specs.Identities.{identity}
use Rattle.j_insert.specs.Insertion.{all_items, items_from_right}
use Rattle.j_verbs.specs.ByRank.{Doing, by_ranks}
use Rattle.j_verbs.specs.State.{Run, ◌>>=◌, fail, pure, or_fault}
use Rattle.j_eval.specs.Operands.{Operand}

-- a verb between items, of which the last one comes first, and what it gave of those behind them
abbrev pub between : Doing → List Array → Array → Run Array
between f [] r = pure r
between f (a ∷ items) r = do
  q ← f (Some a) r
  between f items q

-- only a verb that is one word may have an identity
abbrev pub verb_identity : VerbTree → Option ℤ
verb_identity (primitive p) = identity p
verb_identity (named n r) = None
verb_identity (fork f g h) = None
verb_identity (noun_fork n g h) = None
verb_identity (hook g h) = None
verb_identity (derived m u) = None
verb_identity (derived2 m u v) = None
verb_identity (explicit b) = None
verb_identity (explicit1 b u) = None
verb_identity (explicit2 b u v) = None

abbrev pub operand_identity : OperandTree → Option ℤ
operand_identity (verb v) = verb_identity v
operand_identity (noun n) = None
operand_identity (rank_list l) = None

-- a number throughout a shape
abbrev pub throughout : ℤ → List ℕ → Array
throughout z s = record { kind = Number; shape = s; atoms = replicate (product s) (number z) }

-- where there are no items: the identity in the shape of an item
abbrev pub in_item_shape : Option ℤ → Array → Result Array Fault
in_item_shape None y = Err Domain
in_item_shape (Some z) y = limited (throughout z (drop 1 y.shape))

-- one item is itself
abbrev pub insert_items : Operand → Array → List Array → Run Array
insert_items u y [] = or_fault (in_item_shape (operand_identity u.tree) y)
insert_items u y (a ∷ items) = between u.does items a

-- infinite ranks but for the left one, which is that of u
abbrev pub table_ranks : OperandTree → Ranks
table_ranks u = three Infinite (operand_ranks u).left Infinite

-- `u/ y` and `x u/ y`
abbrev pub insert : Operand → Doing
insert u None y = insert_items u y (items_from_right (all_items y))
insert u (Some x) y = by_ranks (table_ranks u.tree) u.does (Some x) y

-- the ranks that v is given in `u . v`: its left one and one more, and an infinite one
abbrev pub product_ranks : OperandTree → Ranks
product_ranks v = three Infinite (one_more (operand_ranks v).left) Infinite

-- `x u . v y`: u on what v gives of each left cell and all of y; there is no monad
abbrev pub inner_product : Operand → Operand → Doing
inner_product u v None y = fail Nonce
inner_product u v (Some x) y = do
  r ← by_ranks (product_ranks v.tree) v.does (Some x) y
  u.does None r
