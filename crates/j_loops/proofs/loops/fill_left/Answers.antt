use Rattle.std.proofs.Common.{arith, length}
use Rattle.j_loops.proofs.Filling.{results_more, results_at, both_low, row_of, place_within, rows_end}
use Rattle.j_loops.proofs.loops.fill_left.Goals as goal

pub loop-k-preserved : goal.loop-k-preserved
loop-k-preserved g c = λ h.
    let low = both_low c.loop-k.bad c.quick-z.result.1 h in
    let within = place_within c.loop-i.i (length c.args.x.now) c.args.left c.loop-i.start c.loop-k.k (length c.args.out.now) c.loop-i.invariant.place c.loop-i-test.true c.requires.left (omega arith) in
    results_more _ _ _ _ _ c.args.left 1 _ _ _ c.loop-k.k c.loop-i.i c.loop-k.k _ _ _ (row_of c.loop-i.i c.args.left c.loop-k.k c.loop-i.start c.loop-i.invariant.place (omega arith) (omega arith)) (omega arith) (omega arith) (omega arith) (omega arith)
    c.index-x-i.is c.index-y-k.is (c.quick-z.ensures low.1) (c.loop-k.invariant low.0)

pub loop-i-preserved : goal.loop-i-preserved
loop-i-preserved g c = record {
  place = omega arith;
  done = λ h. results_at _ _ _ _ _ c.args.left 1 _ _ _ c.loop-k.k _ (omega arith) (c.loop-k.invariant h);
}

pub returns : goal.returns
returns g c = λ h.
    let end = rows_end c.loop-i.i (length c.args.x.now) c.args.left c.loop-i.start (length c.args.out.now) c.loop-i.invariant.place (omega arith) c.requires.left in
    results_at _ _ _ _ _ c.args.left 1 _ _ _ c.loop-i.start _ (omega arith) (c.loop-i.invariant.done h)
