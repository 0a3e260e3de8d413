use Rattle.std.proofs.Common.{◌≡◌, replicate}
use Rattle.j_display.specs.Blocks.{extended}
use Rattle.j_display.proofs.canvas.Canvas.append_to_each.Given as goal

abbrev pub invariant-loop-r : goal.invariant-loop-r
invariant-loop-r l = l.self ≡ extended l.fn.self l.row (replicate l.r (replicate l.count l.byte))
