use Rattle.std.proofs.Common.{◌≡◌, map, take}
use Rattle.j_reshaping.specs.Axes.{axis_length}
use Rattle.j_reshaping.proofs.transposing.lengths_by.Given as goal

abbrev pub invariant-loop-a : goal.invariant-loop-a
invariant-loop-a l = l.lengths ≡ map (axis_length l.axes) (take l.a-index l.order)
