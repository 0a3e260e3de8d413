use Rattle.std.proofs.Common.{◌≡◌, ◌++◌, length, take}
use Rattle.std.specs.List.{flat_map}
use Rattle.j_places.specs.Axes.{places_of, item_kept}
use Rattle.j_places.proofs.keeping.+append_kept.Given as goal

abbrev pub decreases-append_kept : goal.decreases-append_kept
decreases-append_kept g l = length l.axes.now

abbrev pub invariant-loop-k : goal.invariant-loop-k
invariant-loop-k g l = l.out.items ≡ l.fn.out.items ++ flat_map (item_kept l.fill l.inner l.unit l.all) (take l.k (places_of l.axis))
