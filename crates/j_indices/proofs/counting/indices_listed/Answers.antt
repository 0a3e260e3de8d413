use Rattle.std.proofs.Common.{arith, to_z, w64}
use Rattle.std.proofs.lemmas.Int.{to_z_pos}
use Rattle.j_indices.proofs.Counts.{indices_more}
use Rattle.j_indices.proofs.counting.indices_listed.Goals as goal

pub loop-k-preserved : goal.loop-k-preserved
loop-k-preserved g c =
    indices_more g.N.Whole.value c.args.counts.now c.loop-k.k c.index-counts-k.result c.magnitude.result (to_z w64 c.loop-k.k) c.loop-k.out.items c.append_fills.new.out.items (omega arith) c.index-counts-k.is
    c.magnitude.ensures (to_z_pos w64 c.loop-k.k (omega arith)) c.loop-k.invariant c.in_ok-append_fills.ensures
