use Rattle.std.proofs.Common.{◌≡◌}
use Rattle.j_display.proofs.Maxima.{widened_by}
use Rattle.j_display.proofs.measure.widen_columns.Given as goal

abbrev pub invariant-loop-j : goal.invariant-loop-j
invariant-loop-j l = l.widths ≡ widened_by l.j l.fn.widths l.line
