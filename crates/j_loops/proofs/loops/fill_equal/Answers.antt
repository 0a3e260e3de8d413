use Rattle.std.proofs.Common.{arith}
use Rattle.j_loops.proofs.Filling.{results_more, both_low}
use Rattle.j_loops.proofs.loops.fill_equal.Goals as goal

pub loop-k-preserved : goal.loop-k-preserved
loop-k-preserved g c = λ h.
    let low = both_low c.loop-k.bad c.quick-z.result.1 h in
    results_more _ _ _ _ _ 1 1 _ _ _ c.loop-k.k c.loop-k.k c.loop-k.k _ _ _ (omega arith) (omega arith) (omega arith) (omega arith) (omega arith)
    c.index-x-k.is c.index-y-k.is (c.quick-z.ensures low.1) (c.loop-k.invariant low.0)
