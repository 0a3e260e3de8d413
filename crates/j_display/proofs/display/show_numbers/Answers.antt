use Rattle.std.proofs.Common.{◌≡◌, ℕ, List, length, subst, sym, ap, ◌∙◌, arith}
use Rattle.j_definitions.specs.Array.{product}
use Rattle.j_noun.specs.Viewed.{viewed, kind_viewed}
use Rattle.j_display.specs.Rows.{pieces, column_widths}
use Rattle.j_display.specs.Sizes.{row_bytes, stacked_bytes}
use Rattle.j_display.specs.Shown.{IsShown}
use Rattle.j_display.proofs.Fitting.{length-column_widths}
use Rattle.j_display.proofs.Wholes.{numbers_whole, numbers_many, product_over, columns_few, rows_light, not_boxed}
use Rattle.j_display.proofs.display.show_numbers.Goals as goal

pub row_bytes-row-requires : goal.row_bytes-row-requires
row_bytes-row-requires c =
    let n = product_over (product c.args.frame.now) c.args.columns c.view_len.result c.requires.column (c.requires.whole ∙ sym c.view_len.ensures) in
    let widths : c.deref.result.now ≡ column_widths c.args.columns (pieces (product c.args.frame.now) c.args.columns (viewed c.args.atoms)) =
    c.deref.ensures.value ∙ c.in_ok-widths.ensures ∙ ap (λ m. column_widths c.args.columns (pieces m c.args.columns (viewed c.args.atoms))) n in
    let many = ap length widths ∙ length-column_widths (product c.args.frame.now) c.args.columns (viewed c.args.atoms) c.requires.whole in
    let few = columns_few (product c.args.frame.now) c.args.columns _ c.requires.some c.requires.whole c.requires.few in
    record { few = omega arith }

pub show_lines-shown-requires-clause-lines : goal.show_lines-shown-requires-clause-lines
show_lines-shown-requires-clause-lines c =
    let n = product_over (product c.args.frame.now) c.args.columns c.view_len.result c.requires.column (c.requires.whole ∙ sym c.view_len.ensures) in
    let widths : c.deref-2.result.now ≡ column_widths c.args.columns (pieces (product c.args.frame.now) c.args.columns (viewed c.args.atoms)) =
    c.deref-2.ensures.value ∙ c.in_ok-widths.ensures ∙ ap (λ m. column_widths c.args.columns (pieces m c.args.columns (viewed c.args.atoms))) n in
    let many = ap length widths ∙ length-column_widths (product c.args.frame.now) c.args.columns (viewed c.args.atoms) c.requires.whole in
    record { not_boxed = not_boxed (kind_viewed c.args.atoms) c.requires.kind; enough = omega arith; counted = c.requires.count; few = c.requires.few; wide = λ _. many }

pub show_lines-shown-requires-clause-light : goal.show_lines-shown-requires-clause-light
show_lines-shown-requires-clause-light c =
    let n = product_over (product c.args.frame.now) c.args.columns c.view_len.result c.requires.column (c.requires.whole ∙ sym c.view_len.ensures) in
    let widths : c.deref.result.now ≡ column_widths c.args.columns (pieces (product c.args.frame.now) c.args.columns (viewed c.args.atoms)) =
    c.deref.ensures.value ∙ c.in_ok-widths.ensures ∙ ap (λ m. column_widths c.args.columns (pieces m c.args.columns (viewed c.args.atoms))) n in
    let many = ap length widths ∙ length-column_widths (product c.args.frame.now) c.args.columns (viewed c.args.atoms) c.requires.whole in
    rows_light (product c.args.frame.now) c.args.columns _ c.row_bytes-row.result c.requires.whole c.requires.few (omega (arith, c.row_bytes-row.ensures.few))

pub show_lines-shown-requires-clause-size : goal.show_lines-shown-requires-clause-size
show_lines-shown-requires-clause-size c =
    let n = product_over (product c.args.frame.now) c.args.columns c.view_len.result c.requires.column (c.requires.whole ∙ sym c.view_len.ensures) in
    let widths : c.deref-2.result.now ≡ column_widths c.args.columns (pieces (product c.args.frame.now) c.args.columns (viewed c.args.atoms)) =
    c.deref-2.ensures.value ∙ c.in_ok-widths.ensures ∙ ap (λ m. column_widths c.args.columns (pieces m c.args.columns (viewed c.args.atoms))) n in
    let row : row_bytes c.deref-2.result.now ≡ c.row_bytes-row.result = ap row_bytes (c.deref-2.ensures.value ∙ sym c.deref.ensures.value) ∙ sym c.row_bytes-row.ensures.value in
    numbers_many (kind_viewed c.args.atoms) c.deref-2.result.now c.args.frame.now (viewed c.args.atoms) c.args.columns c.requires.kind widths c.requires.whole c.requires.column ∙ ap (stacked_bytes c.args.frame.now) row

pub returns : goal.returns
returns c =
    let n = product_over (product c.args.frame.now) c.args.columns c.view_len.result c.requires.column (c.requires.whole ∙ sym c.view_len.ensures) in
    let widths : c.deref-2.result.now ≡ column_widths c.args.columns (pieces (product c.args.frame.now) c.args.columns (viewed c.args.atoms)) =
    c.deref-2.ensures.value ∙ c.in_ok-widths.ensures ∙ ap (λ m. column_widths c.args.columns (pieces m c.args.columns (viewed c.args.atoms))) n in
    let P : List ℕ → Type 0 = λ bytes. IsShown c.show_lines-shown.result bytes c.args.room c.args.into.now.items c.show_lines-shown.new.into.items in
    subst P (numbers_whole (kind_viewed c.args.atoms) c.deref-2.result.now c.args.frame.now (viewed c.args.atoms) c.args.columns c.requires.kind widths) c.show_lines-shown.ensures
