use Rattle.std.proofs.Common.{◌≡◌, ◌+◌, ◌*◌, ◌++◌, length, map, take}
use Rattle.std.specs.List.{flat_map}
use Rattle.j_indices.specs.Indexing.{places_from}
use Rattle.j_indices.proofs.Taken.{places}
use Rattle.j_indices.proofs.axes.+append_places.Given as goal

abbrev pub decreases-append_places : goal.decreases-append_places
decreases-append_places l = length l.taken.now

abbrev pub invariant-loop-k : goal.invariant-loop-k
invariant-loop-k l = l.out.items ≡ l.fn.out.items ++ flat_map (λ k. places_from (l.start + k * l.step) l.inner (map places l.rest)) (take l.k-index l.places)
