use Rattle.std.proofs.Common.{ap, length, map}
use Rattle.j_search.specs.Graded.{IsInOrder}
use Rattle.j_search.specs.Packed.{place_in}
use Rattle.j_search.proofs.Ranks.{ok_same, ok_holds}
use Rattle.j_search.proofs.packed.packed_order.Goals as goal

pub returns : goal.returns
returns g c =
    ok_holds c.unpacked.result (IsInOrder g.T.Ord.cmp c.args.direction 1 (length c.args.items.now) c.args.items.now) c.in_ok-words.ensures.order
    (ok_same c.unpacked.result (ap (map place_in) c.deref.ensures.value) c.unpacked.ensures)
