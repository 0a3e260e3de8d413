use Rattle.std.proofs.Common.{◌≡◌}
use Rattle.j_display.specs.Measured.{grid_height}
use Rattle.j_display.proofs.grid.grid_height.Given as goal

abbrev pub invariant-loop-k : goal.invariant-loop-k
invariant-loop-k l = l.total ≡ grid_height l.frame l.heights l.k
