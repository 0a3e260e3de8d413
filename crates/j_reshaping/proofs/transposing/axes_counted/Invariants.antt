use Rattle.std.proofs.Common.{◌≡◌, ◌<◌, map, take, pos, Ok}
use Rattle.std.specs.List.{All}
use Rattle.j_reshaping.specs.Axes.{axis_of}
use Rattle.j_reshaping.proofs.transposing.axes_counted.Given as goal

abbrev pub invariant-loop-z : goal.invariant-loop-z
invariant-loop-z l = record {
  value : map (axis_of l.n) (take l.z-index l.numbers) ≡ map Ok l.axes.items;
  same : map pos l.axes.items ≡ take l.z-index l.numbers;
  within : All (λ a. a < l.n) l.axes.items;
}
