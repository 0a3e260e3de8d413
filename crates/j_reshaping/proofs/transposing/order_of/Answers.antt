use Rattle.j_reshaping.proofs.Counting.{others_more}
use Rattle.j_reshaping.proofs.transposing.order_of.Goals as goal

pub loop-a-preserved : goal.loop-a-preserved
loop-a-preserved c = others_more c.args.axes.now c.loop-a.order.items _ c.loop-a.a c.loop-a.invariant c.in_ok-append_other.ensures
