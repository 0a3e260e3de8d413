use Rattle.std.proofs.Common.{◌≡◌, map, take, length}
use Rattle.std.specs.List.{All}
use Rattle.j_places.specs.AxisPlaces.{kept_axes}
use Rattle.j_places.specs.Axes.{places_of, IsAxis}
use Rattle.j_places.proofs.axis_places.axes_of.Given as goal

abbrev pub invariant-loop-i : goal.invariant-loop-i
invariant-loop-i l = record {
  places : map places_of l.axes.items ≡ kept_axes l.way (take l.i l.numbers) (take l.i l.lengths);
  extents : map (λ a. a.extent) l.axes.items ≡ take l.i l.lengths;
  many : length l.axes.items ≡ l.i;
  are : All IsAxis l.axes.items;
}
