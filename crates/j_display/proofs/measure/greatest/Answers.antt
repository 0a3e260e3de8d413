use Rattle.std.proofs.Common.{arith, rules}
use Rattle.j_display.proofs.Maxima.{greatest_more}
use Rattle.j_display.proofs.measure.greatest.Goals as goal

pub loop-value-preserved : goal.loop-value-preserved
loop-value-preserved c = greatest_more c.args.values.now c.loop-value.value-index c.loop-value.most c.greater-most.result (omega arith) c.loop-value.invariant (search rules)
