use Rattle.std.proofs.Common.{◌<◌, arith, length}
use Rattle.j_select.proofs.ListPlaces.{next_more}
use Rattle.j_select.proofs.amending.next_places.Goals as goal

pub overflow_add-next : goal.overflow_add-next
overflow_add-next c =
    let within : c.loop-k.k-index < length c.args.places.now = omega arith in
    omega (arith, c.requires c.loop-k.k-index 0 within)

pub loop-k-preserved : goal.loop-k-preserved
loop-k-preserved c = next_more c.args.places.now c.loop-k.k-index c.loop-k.out.items c.push.new.self.items (omega arith) c.loop-k.invariant c.in-Ok.ensures.items
