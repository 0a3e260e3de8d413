use Rattle.std.proofs.Common.{arith}
use Rattle.j_rank.proofs.Widest.{widened}
use Rattle.j_rank.proofs.common.widen.Goals as goal

pub returns : goal.returns
returns c = widened c.args.lengths.now c.args.axes.now c.loop-k.lengths c.requires (omega arith) (λ k h. c.loop-k.invariant.done k (omega arith))
