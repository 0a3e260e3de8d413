use Rattle.std.proofs.Common.{◌≡◌, map}
use Rattle.j_display.specs.Rows.{pieces, greatest}
use Rattle.j_display.proofs.measure.highest_lines.Given as goal

abbrev pub invariant-loop-k : goal.invariant-loop-k
invariant-loop-k l = l.highest.items ≡ map greatest (pieces l.k l.columns l.heights)
