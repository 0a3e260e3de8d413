use Rattle.std.proofs.Common.{◌≡◌, ◌++◌, take, reverse}
use Rattle.std.specs.List.{range_with_len}
use Rattle.j_places.specs.ItemPlaces.{parts_at}
use Rattle.j_places.proofs.item_places.append_backwards.Given as goal

abbrev pub invariant-loop-k : goal.invariant-loop-k
invariant-loop-k g l = l.out.items ≡ l.fn.out.items ++ parts_at 1 l.all (take l.k (reverse (range_with_len 0 l.count)))
