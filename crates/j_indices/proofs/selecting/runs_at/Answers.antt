use Rattle.std.proofs.Common.{arith}
use Rattle.j_indices.proofs.Runs.{runs_more}
use Rattle.j_indices.proofs.selecting.runs_at.Goals as goal

pub part-requires : goal.part-requires
part-requires g c = c.requires c.loop-k.k-index 0 (omega arith)

pub loop-k-preserved : goal.loop-k-preserved
loop-k-preserved g c =
    runs_more c.args.size c.args.all.now c.part.result.now c.loop-k.out.items c.append.new.out.items c.args.places.now c.loop-k.k-index (omega arith) c.part.ensures c.loop-k.invariant c.in_ok-append.ensures
