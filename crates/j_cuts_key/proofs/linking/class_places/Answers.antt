use Rattle.std.proofs.Common.{arith}
use Rattle.j_cuts_key.proofs.Linked.{walk_on}
use Rattle.j_cuts_key.proofs.linking.class_places.Goals as goal

pub loop-place-preserved : goal.loop-place-preserved
loop-place-preserved c =
    walk_on c.args.links.now.classes.items c.args.class c.loop-place.places.items c.push.new.self.items c.args.links.now.heads.items c.args.links.now.next.items c.loop-place.place c.index-place-in-loop-place.result.now
    c.requires.links (omega arith) c.in-Ok.ensures.items c.index-place-in-loop-place.ensures c.loop-place.invariant
