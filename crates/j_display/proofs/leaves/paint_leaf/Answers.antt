use Rattle.std.proofs.Common.{arith, ℕ, List, ◌+◌, length, map, subst, sym, ap, ◌∙◌}
use Rattle.j_definitions.specs.Array.{product}
use Rattle.j_noun.specs.Viewed.{viewed, kind_viewed}
use Rattle.j_display.specs.Rows.{padded, pieces}
use Rattle.j_display.specs.Blocks.{extended}
use Rattle.j_display.specs.Lines.{AreWidths}
use Rattle.j_display.specs.declared.lines.Lines.{Lines}
use Rattle.j_display.proofs.LeafRows.{leaf_rows_are, leaf_has_lines}
use Rattle.j_display.proofs.leaves.paint_leaf.Goals as goal

pub paint_lines-requires-clause-lines : goal.paint_lines-requires-clause-lines
paint_lines-requires-clause-lines c =
    let P : List ℕ → Type 0 = λ ws. AreWidths (kind_viewed c.args.atoms) c.arrange-all.result.columns (pieces c.arrange-all.result.count c.arrange-all.result.columns (viewed c.args.atoms)) ws in
    let aw = subst P (sym c.deref.ensures.value) c.in_ok-widths.ensures in
    let l : Lines = record { atoms = c.args.atoms; columns = c.arrange-all.result.columns; widths = c.deref.result } in
    leaf_has_lines l c.arrange-all.result.count (0 + product c.arrange-all.result.frame.now) c.requires.not_boxed (omega (arith, c.arrange-all.ensures.count)) (c.arrange-all.ensures.whole ∙ c.view_len.ensures) c.requires.few c.arrange-all.ensures.few aw

pub returns-clause-row : goal.returns-clause-row
returns-clause-row c =
    let P : List ℕ → Type 0 = λ ws. AreWidths (kind_viewed c.args.atoms) c.arrange-all.result.columns (pieces c.arrange-all.result.count c.arrange-all.result.columns (viewed c.args.atoms)) ws in
    let aw = subst P (sym c.deref.ensures.value) c.in_ok-widths.ensures in
    let l : Lines = record { atoms = c.args.atoms; columns = c.arrange-all.result.columns; widths = c.deref.result } in
    c.in_ok-end.ensures.row ∙ ap (λ rows. c.args.row + length rows) (leaf_rows_are l c.args.axes.now c.arrange-all.result.frame.now c.arrange-all.result.count c.arrange-all.ensures.frame c.arrange-all.ensures.columns c.arrange-all.ensures.count aw)

pub returns-clause-canvas : goal.returns-clause-canvas
returns-clause-canvas c =
    let P : List ℕ → Type 0 = λ ws. AreWidths (kind_viewed c.args.atoms) c.arrange-all.result.columns (pieces c.arrange-all.result.count c.arrange-all.result.columns (viewed c.args.atoms)) ws in
    let aw = subst P (sym c.deref.ensures.value) c.in_ok-widths.ensures in
    let l : Lines = record { atoms = c.args.atoms; columns = c.arrange-all.result.columns; widths = c.deref.result } in
    c.in_ok-end.ensures.canvas
    ∙ ap (λ rows. extended c.args.canvas.now c.args.row (map (padded c.args.width) rows)) (leaf_rows_are l c.args.axes.now c.arrange-all.result.frame.now c.arrange-all.result.count c.arrange-all.ensures.frame c.arrange-all.ensures.columns c.arrange-all.ensures.count aw)
