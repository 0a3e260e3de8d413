use Rattle.std.proofs.Common.{◌≡◌, ◌++◌, take}
use Rattle.j_rank.proofs.sizes.extended.Given as goal

abbrev pub invariant-loop-n : goal.invariant-loop-n
invariant-loop-n l = l.shape ≡ l.initial.shape ++ take l.n-index l.axes
