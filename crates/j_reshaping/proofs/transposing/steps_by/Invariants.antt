use Rattle.std.proofs.Common.{◌≡◌, map, take}
use Rattle.j_reshaping.specs.Axes.{axis_step}
use Rattle.j_reshaping.proofs.transposing.steps_by.Given as goal

abbrev pub invariant-loop-a : goal.invariant-loop-a
invariant-loop-a l = l.steps ≡ map (axis_step l.axes) (take l.a-index l.order)
