use Rattle.std.proofs.Common.{arith, length, refl}
use Rattle.j_loops.proofs.Filling.{results_more, outcome-Err, row_within}
use Rattle.j_loops.proofs.loops.fill_exact.Goals as goal

pub returns-in-Err : goal.returns-in-Err
returns-in-Err g c =
    outcome-Err _ _ g.Z.Stored.atom g.Z.Stored.IsKept _ _ _ _ _ c.loop-k.out c.loop-k.k _ _ _ (omega arith) (omega arith) (omega arith)
    c.index-x-k.is c.index-y-k.is c.in-Err.ensures c.loop-k.invariant

pub loop-k-preserved : goal.loop-k-preserved
loop-k-preserved g c =
    results_more _ _ _ _ _ c.args.left c.args.right _ _ _ c.loop-k.k _ _ _ _ _ refl refl
    (row_within (length c.args.x.now) c.args.left (length c.args.out.now) c.loop-k.k c.requires.left (omega arith))
    (row_within (length c.args.y.now) c.args.right (length c.args.out.now) c.loop-k.k c.requires.right (omega arith))
    (omega arith) c.index-x-k.is c.index-y-k.is c.in-Ok.ensures c.loop-k.invariant
