use Rattle.std.proofs.Common.{arith, rules, ◌+◌, ◌-◌, ◌*◌}
use Rattle.j_display.proofs.Maxima.{widest_more}
use Rattle.j_display.proofs.measure.widest_columns.Goals as goal

pub loop-k-preserved : goal.loop-k-preserved
loop-k-preserved c = record {
  widest =
      widest_more c.args.columns c.loop-k.k (c.loop-k.k * c.args.columns + c.args.columns - c.loop-k.k * c.args.columns) c.loop-k.widest.len c.args.widths.now c.loop-k.widest.items c.deref_mut.result.now c.widen_columns.new.widths
      c.deref_mut.ensures.value c.loop-k.invariant.widest (omega arith) (omega arith) c.widen_columns.ensures;
  length = search rules;
}
