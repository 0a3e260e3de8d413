use Rattle.std.proofs.Common.{arith}
use Rattle.j_display.proofs.Maxima.{widened_more, widened_done}
use Rattle.j_display.proofs.measure.widen_columns.Goals as goal

pub loop-j-preserved : goal.loop-j-preserved
loop-j-preserved c = widened_more c.loop-j.widths c.args.widths.now c.args.line.now c.loop-j.j c.greater-wide.result c.requires c.loop-j-test.true c.loop-j.invariant c.greater-wide.ensures

pub returns : goal.returns
returns c = widened_done c.loop-j.widths c.args.widths.now c.args.line.now c.loop-j.j c.requires (omega arith) c.loop-j.invariant
