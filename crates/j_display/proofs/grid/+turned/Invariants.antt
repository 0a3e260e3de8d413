use Rattle.std.proofs.Common.{length}
use Rattle.j_display.proofs.grid.+turned.Given as goal

abbrev pub decreases-turned : goal.decreases-turned
decreases-turned l = length l.frame.now
