-- `<` on cells that are alone.
use Rattle.std.specs.Prelude.{◌≡◌, List, map, None}
use Rattle.std.specs.Option.{option_copied}
use Rattle.j_definitions.specs.Array.{Array}
use Rattle.j_entity.specs.Tree.{primitive, verb}
use Rattle.j_entity.specs.View.{operand_of}
use Rattle.j_leaves.specs.declared.primitive.Primitive.TheVariants.{Less}
use Rattle.j_verbs.specs.ByRank.{Cells}
use Rattle.j_eval.specs.declared.by_rank.EachCell.{EachCell}
use Rattle.j_eval.specs.declared.by_rank.EachCell.TheVariants.{Cell, Does}
use Rattle.j_eval.specs.declared.sources.CellsFrom.{CellsFrom}
use Rattle.j_eval.specs.declared.sources.CellsFrom.TheVariants.{Arguments, Runs, Groups}

-- `<` is what is done on each cell
abbrev pub IsBoxing : EachCell → Type 0
IsBoxing (Cell v) = ⊥
IsBoxing (Does u) = operand_of u.now ≡ verb (primitive Less)

-- there is no left argument
abbrev pub AreAlone : CellsFrom → Type 0
AreAlone (Arguments p x y) = option_copied x ≡ None
AreAlone (Runs p) = Unit {0}
AreAlone (Groups p) = Unit {0}

-- each of some nouns, as a cell alone
abbrev pub alone_each : List Array → List Cells
alone_each ns = map {A = Array} {B = Cells} (λ a. (None, a)) ns
