use Rattle.std.proofs.Common.{length}
use Rattle.j_display.proofs.sizes.+stacked_bytes.Given as goal

abbrev pub decreases-stacked_bytes : goal.decreases-stacked_bytes
decreases-stacked_bytes l = length l.frame.now
