use Rattle.std.proofs.Common.{◌<◌, arith, length}
use Rattle.j_indices.proofs.Copies.{total_more}
use Rattle.j_indices.proofs.copying.total_served.Goals as goal

pub loop-k-preserved : goal.loop-k-preserved
loop-k-preserved g c =
    let within : c.serving.result < length c.args.counts.now = omega (arith, c.serving.ensures, c.requires c.loop-k.k c.loop-k-test.true) in
    let more = total_more g.N.Whole.value c.args.axes.now c.args.counts.now c.loop-k.k c.serving.result c.index-counts-serving.result c.serving.ensures within c.index-counts-serving.is in
    omega (arith, more, c.magnitude.ensures, c.saturating_add-total.ensures, c.loop-k.invariant)
