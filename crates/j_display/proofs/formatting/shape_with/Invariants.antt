use Rattle.std.proofs.Common.{◌≡◌, take}
use Rattle.j_display.proofs.formatting.shape_with.Given as goal

abbrev pub invariant-loop-n : goal.invariant-loop-n
invariant-loop-n l = l.shape ≡ take l.n-index l.frame
