use Rattle.std.proofs.Common.{◌≡◌, map, take}
use Rattle.j_indices.specs.Counting.{shape_along}
use Rattle.j_indices.proofs.counting.shape_of_magnitudes.Given as goal

abbrev pub invariant-loop-n : goal.invariant-loop-n
invariant-loop-n g l = l.shape ≡ shape_along (map g.N.Whole.value (take l.n-index l.lengths))
