use Rattle.std.proofs.Common.{◌≡◌, ◌∷◌, [], take}
use Rattle.std.specs.List.{flat_map}
use Rattle.j_display.specs.Rows.{rule_part}
use Rattle.j_display.specs.Blocks.{extended}
use Rattle.j_display.proofs.paint.paint_rule.Given as goal

abbrev pub invariant-loop-column : goal.invariant-loop-column
invariant-loop-column l = l.canvas ≡ extended l.fn.canvas l.row ((43 ∷ flat_map rule_part (take l.column-index l.widths)) ∷ [])
