use Rattle.std.proofs.Common.{◌≡◌, map, take, pos}
use Rattle.j_places.proofs.item_places.shape_of.Given as goal

abbrev pub invariant-loop-n : goal.invariant-loop-n
invariant-loop-n l = l.lengths.items ≡ map (λ n. pos n) (take l.n-index l.axes)
