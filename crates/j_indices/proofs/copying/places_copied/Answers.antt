use Rattle.std.proofs.Common.{◌<◌, arith, length}
use Rattle.j_indices.proofs.Copies.{copies_more}
use Rattle.j_indices.proofs.copying.places_copied.Goals as goal

pub loop-k-preserved : goal.loop-k-preserved
loop-k-preserved g c =
    let within : c.serving.result < length c.args.counts.now = omega (arith, c.serving.ensures, c.requires c.loop-k.k c.loop-k-test.true) in
    copies_more g.N.Whole.value c.args.axes.now c.args.items.now c.args.counts.now c.loop-k.k c.serving.result c.index-counts-serving.result c.magnitude-times.result c.serving-in-loop-k.result c.loop-k.out.items
    c.append_times.new.out.items c.serving.ensures within c.index-counts-serving.is c.magnitude-times.ensures c.serving-in-loop-k.ensures c.loop-k.invariant c.in_ok-append_times.ensures
