use Rattle.std.proofs.Common.{arith, rules}
use Rattle.j_noun.specs.Viewed.{viewed}
use Rattle.j_display.proofs.Widening.{line_widened}
use Rattle.j_display.proofs.columns.column_widths.Goals as goal

pub loop-k-preserved : goal.loop-k-preserved
loop-k-preserved c = record {
  widths =
      line_widened c.args.columns c.loop-k.k c.loop-k.widths.len (viewed c.args.atoms) c.loop-k.widths.items c.deref_mut.result.now c.widen.new.widths c.deref_mut.ensures.value c.loop-k.invariant.widths
      (omega arith) (omega arith) c.widen.ensures;
  length = search rules;
}
