use Rattle.std.proofs.Common.{arith}
use Rattle.j_cuts_key.proofs.Linked.{links_back}
use Rattle.j_cuts_key.proofs.linking.links.Goals as goal

pub loop-k-preserved : goal.loop-k-preserved
loop-k-preserved c = record {
  within = omega arith;
  linked =
      links_back c.args.classes.now c.loop-k.k c.class_at-class.result c.index.result.now c.loop-k.heads.items c.loop-k.next.items (omega arith) c.loop-k.invariant.within c.requires c.class_at-class.ensures c.index.ensures
      c.loop-k.invariant.linked;
}
