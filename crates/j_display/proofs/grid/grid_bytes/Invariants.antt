use Rattle.std.proofs.Common.{◌≡◌}
use Rattle.j_display.specs.Measured.{grid_bytes}
use Rattle.j_display.proofs.grid.grid_bytes.Given as goal

abbrev pub invariant-loop-k : goal.invariant-loop-k
invariant-loop-k l = l.total ≡ grid_bytes l.frame l.heights l.row l.k
