use Rattle.std.proofs.Common.{◌≡◌, take}
use Rattle.j_display.specs.Rows.{greatest}
use Rattle.j_display.proofs.measure.greatest.Given as goal

abbrev pub invariant-loop-value : goal.invariant-loop-value
invariant-loop-value l = l.most ≡ greatest (take l.value-index l.values)
