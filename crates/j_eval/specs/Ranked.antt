-- Verbs that are given ranks.
use Rattle.j_entity.specs.Tree.{OperandTree, verb, noun, rank_list}
use Rattle.j_verbs.specs.ByRank.{Doing}
use Rattle.j_verbs.specs.State.{pure}
use Rattle.j_eval.specs.Operands.{Operand, unformed}

abbrev pub rank_of : OperandTree → Doing → Doing
rank_of (verb u) f x y = f x y
rank_of (noun m) f x y = pure m
rank_of (rank_list l) f x y = unformed x y

-- `u"n`, `u"v` and `m"n` on cells of these ranks: u on each, and m for each
abbrev pub rank : Operand → Doing
rank u x y = rank_of u.tree u.does x y
