use Rattle.std.proofs.Common.{ℕ, List, subst, sym}
use Rattle.j_noun.specs.Viewed.{viewed, kind_viewed}
use Rattle.j_display.specs.Rows.{pieces}
use Rattle.j_display.specs.Lines.{AreWidths}
use Rattle.j_display.specs.declared.lines.Lines.{Lines}
use Rattle.j_display.proofs.LeafRows.{leaf_width, leaf_height}
use Rattle.j_display.proofs.measure.measure_lines.Goals as goal

pub returns : goal.returns
returns c =
    let P : List ℕ → Type 0 = λ ws. AreWidths (kind_viewed c.args.atoms) c.arrange-all.result.columns (pieces c.arrange-all.result.count c.arrange-all.result.columns (viewed c.args.atoms)) ws in
    let aw = subst P (sym c.deref.ensures.value) c.in_ok-widths.ensures in
    let l : Lines = record { atoms = c.args.atoms; columns = c.arrange-all.result.columns; widths = c.deref.result } in
    record {
      width =
          leaf_width l c.args.axes.now c.arrange-all.result.frame.now c.arrange-all.result.count c.line_size-width.result c.arrange-all.ensures.frame c.arrange-all.ensures.columns c.arrange-all.ensures.count c.arrange-all.ensures.some aw
          c.line_size-width.ensures;
      height =
          leaf_height l c.args.axes.now c.arrange-all.result.frame.now c.arrange-all.result.count c.stacked_bytes-height.result c.arrange-all.ensures.frame c.arrange-all.ensures.columns c.arrange-all.ensures.count aw c.stacked_bytes-height.ensures.value;
    }
