-- A noun with others at some places.
use Rattle.std.specs.Prelude.{Some, None}
use Rattle.j_definitions.specs.declared.Fault.TheVariants.{Nonce}
use Rattle.j_entity.specs.Tree.{OperandTree, verb, noun, rank_list}
use Rattle.j_select.specs.Amending.{amend as amended}
use Rattle.j_verbs.specs.ByRank.{Doing}
use Rattle.j_verbs.specs.State.{fail, or_fault}
use Rattle.j_eval.specs.Operands.{Operand, unformed}

-- y with x at the places that a noun says; there is no monad
abbrev pub amend_of : OperandTree → Doing
amend_of (noun m) None y = fail Nonce
amend_of (noun m) (Some x) y = or_fault (amended m x y)
amend_of (verb u) x y = unformed x y
amend_of (rank_list l) x y = unformed x y

-- `m}`
abbrev pub amend : Operand → Doing
amend u x y = amend_of u.tree x y
