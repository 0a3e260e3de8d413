-- The operands of modifiers.
use Rattle.std.specs.Prelude.{Option, Some, None}
use Rattle.j_definitions.specs.declared.Fault.{Fault}
use Rattle.j_definitions.specs.declared.Fault.TheVariants.{Domain}
use Rattle.j_entity.specs.Tree.{OperandTree}
use Rattle.j_verbs.specs.ByRank.{Doing}
use Rattle.j_verbs.specs.State.{fail}

-- an operand: its tree, and what it does as a verb
pub record Operand : Type 0 where
  pub tree : OperandTree
  pub does : Doing

-- what no row forms
abbrev pub unformed : Doing
unformed x y = fail Domain

-- what a verb does, unless its operands are at fault, so that no row forms it
abbrev pub where_formed : Option Fault → Doing → Doing
where_formed None f = f
where_formed (Some e) f = unformed
