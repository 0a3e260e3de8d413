use Rattle.std.proofs.Common.{◌≡◌, map, take, length}
use Rattle.j_places.specs.Axes.{places_of}
use Rattle.j_places.proofs.axis_places.kept_lengths.Given as goal

abbrev pub invariant-loop-axis : goal.invariant-loop-axis
invariant-loop-axis l = l.shape ≡ map length (map places_of (take l.axis-index l.axes))
