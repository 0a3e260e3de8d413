use Rattle.std.proofs.Common.{arith, ℕ, ◌≡◌, ◌<◌, ◌≤◌, ◌-◌, ◌*◌, ◌++◌, ◌∷◌, [], length, sym, ap, ◌∙◌}
use Rattle.std.specs.List.{flat_map, range_with_len}
use Rattle.std.proofs.lemmas.List.{length-map}
use Rattle.std.proofs.Math.Nat.{mul-le-mul_left}
use Rattle.j_definitions.specs.Array.{product, byte}
use Rattle.j_noun.specs.Viewed.{viewed, kind_viewed}
use Rattle.j_display.specs.Rows.{pieces, column_widths}
use Rattle.j_display.specs.Sizes.{row_bytes}
use Rattle.j_display.specs.declared.lines.Lines.{Lines}
use Rattle.j_display.specs.Lines.{row_at}
use Rattle.j_display.specs.Formatted.{number_rows, row_characters}
use Rattle.j_display.proofs.Fitting.{length-column_widths}
use Rattle.j_display.proofs.Wholes.{rows_light, not_boxed}
use Rattle.j_display.proofs.LeafRows.{number_size_of}
use Rattle.j_display.proofs.Formats.{formatted_is, formatted_beyond, flat_many, product-last, characters_of, answers_as}
use Rattle.j_display.proofs.formatting.format_numbers.Goals as goal

pub row_bytes-requires : goal.row_bytes-requires
row_bytes-requires c =
    let whole : c.arrange-all.result.count * c.arrange-all.result.columns ≡ length (viewed c.args.atoms) = c.arrange-all.ensures.whole ∙ c.view_len.ensures in
    let widths : c.deref.result.now ≡ column_widths c.arrange-all.result.columns (pieces c.arrange-all.result.count c.arrange-all.result.columns (viewed c.args.atoms)) = c.deref.ensures.value ∙ c.in_ok-widths.ensures in
    let many = ap length widths ∙ length-column_widths c.arrange-all.result.count c.arrange-all.result.columns (viewed c.args.atoms) whole in
    record { few = omega (arith, c.arrange-all.ensures.narrow) }

pub overflow_mul-all : goal.overflow_mul-all
overflow_mul-all c =
    let whole : c.arrange-all.result.count * c.arrange-all.result.columns ≡ length (viewed c.args.atoms) = c.arrange-all.ensures.whole ∙ c.view_len.ensures in
    let widths : c.deref.result.now ≡ column_widths c.arrange-all.result.columns (pieces c.arrange-all.result.count c.arrange-all.result.columns (viewed c.args.atoms)) = c.deref.ensures.value ∙ c.in_ok-widths.ensures in
    let many = ap length widths ∙ length-column_widths c.arrange-all.result.count c.arrange-all.result.columns (viewed c.args.atoms) whole in
    let light = rows_light c.arrange-all.result.count c.arrange-all.result.columns _ c.row_bytes.result whole c.requires.few (omega (arith, c.row_bytes.ensures.few)) in
    let less : c.saturating_sub-size.result ≤ c.row_bytes.result = omega arith in
    let below : c.arrange-all.result.count * c.saturating_sub-size.result ≤ c.arrange-all.result.count * c.row_bytes.result = mul-le-mul_left c.arrange-all.result.count less in
    omega arith

pub returns-then-all-size-gt-LIMIT : goal.returns-then-all-size-gt-LIMIT
returns-then-all-size-gt-LIMIT c =
    let whole : c.arrange-all.result.count * c.arrange-all.result.columns ≡ length (viewed c.args.atoms) = c.arrange-all.ensures.whole ∙ c.view_len.ensures in
    let widths : c.deref.result.now ≡ column_widths c.arrange-all.result.columns (pieces c.arrange-all.result.count c.arrange-all.result.columns (viewed c.args.atoms)) = c.deref.ensures.value ∙ c.in_ok-widths.ensures in
    let l : Lines = record { atoms = c.args.atoms; columns = c.arrange-all.result.columns; widths = c.deref.result } in
    let size : c.saturating_sub-size.result ≡ row_bytes c.deref.result.now - 1 = omega (arith, ap row_bytes (c.deref.ensures.value ∙ sym c.deref.ensures.value), c.row_bytes.ensures.value) in
    let many = λ (k : ℕ) (h : k < c.arrange-all.result.count). number_size_of l c.arrange-all.result.count k c.saturating_sub-size.result c.requires.kind widths whole c.arrange-all.ensures.column size h in
    formatted_beyond l c.args.axes.now c.arrange-all.result.count c.saturating_sub-size.result c.arrange-all.ensures.lines c.arrange-all.ensures.columns c.requires.kind widths many (omega arith)

pub append_rows-requires-clause-lines : goal.append_rows-requires-clause-lines
append_rows-requires-clause-lines c =
    let whole : c.arrange-all.result.count * c.arrange-all.result.columns ≡ length (viewed c.args.atoms) = c.arrange-all.ensures.whole ∙ c.view_len.ensures in
    let widths : c.deref-2.result.now ≡ column_widths c.arrange-all.result.columns (pieces c.arrange-all.result.count c.arrange-all.result.columns (viewed c.args.atoms)) = c.deref-2.ensures.value ∙ c.in_ok-widths.ensures in
    let many = ap length widths ∙ length-column_widths c.arrange-all.result.count c.arrange-all.result.columns (viewed c.args.atoms) whole in
    record { not_boxed = not_boxed (kind_viewed c.args.atoms) c.requires.kind; enough = omega arith; counted = c.arrange-all.ensures.few; few = c.requires.few; wide = λ _. many }

pub append_rows-requires-clause-size : goal.append_rows-requires-clause-size
append_rows-requires-clause-size c =
    let whole : c.arrange-all.result.count * c.arrange-all.result.columns ≡ length (viewed c.args.atoms) = c.arrange-all.ensures.whole ∙ c.view_len.ensures in
    let widths : c.deref-2.result.now ≡ column_widths c.arrange-all.result.columns (pieces c.arrange-all.result.count c.arrange-all.result.columns (viewed c.args.atoms)) = c.deref-2.ensures.value ∙ c.in_ok-widths.ensures in
    let l : Lines = record { atoms = c.args.atoms; columns = c.arrange-all.result.columns; widths = c.deref-2.result } in
    let size : c.saturating_sub-size.result ≡ row_bytes c.deref-2.result.now - 1 = omega (arith, ap row_bytes (c.deref.ensures.value ∙ sym c.deref-2.ensures.value), c.row_bytes.ensures.value) in
    let many = λ (k : ℕ) (h : k < c.arrange-all.result.count). number_size_of l c.arrange-all.result.count k c.saturating_sub-size.result c.requires.kind widths whole c.arrange-all.ensures.column size h in
    many

pub make-requires-clause-as_many : goal.make-requires-clause-as_many
make-requires-clause-as_many c =
    let whole : c.arrange-all.result.count * c.arrange-all.result.columns ≡ length (viewed c.args.atoms) = c.arrange-all.ensures.whole ∙ c.view_len.ensures in
    let widths : c.deref-2.result.now ≡ column_widths c.arrange-all.result.columns (pieces c.arrange-all.result.count c.arrange-all.result.columns (viewed c.args.atoms)) = c.deref-2.ensures.value ∙ c.in_ok-widths.ensures in
    let l : Lines = record { atoms = c.args.atoms; columns = c.arrange-all.result.columns; widths = c.deref-2.result } in
    let size : c.saturating_sub-size.result ≡ row_bytes c.deref-2.result.now - 1 = omega (arith, ap row_bytes (c.deref.ensures.value ∙ sym c.deref-2.ensures.value), c.row_bytes.ensures.value) in
    let many = λ (k : ℕ) (h : k < c.arrange-all.result.count). number_size_of l c.arrange-all.result.count k c.saturating_sub-size.result c.requires.kind widths whole c.arrange-all.ensures.column size h in
    let items : c.append_rows.new.into.items ≡ flat_map (row_at l) (range_with_len 0 c.arrange-all.result.count) =
    c.append_rows.ensures ∙ ap (λ t. t ++ flat_map (row_at l) (range_with_len 0 c.arrange-all.result.count)) c.in_ok-characters.ensures.ok.0 in
    length-map c.append_rows.new.into.items byte ∙ ap length items ∙ flat_many (row_at l) 0 c.arrange-all.result.count c.saturating_sub-size.result (λ k h. many k (omega arith))
    ∙ product-last c.arrange-all.result.frame.now c.saturating_sub-size.result _ (ap (λ m. m * c.saturating_sub-size.result) c.arrange-all.ensures.count) ∙ ap product (sym c.shape_with.ensures)

pub returns : goal.returns
returns c =
    let whole : c.arrange-all.result.count * c.arrange-all.result.columns ≡ length (viewed c.args.atoms) = c.arrange-all.ensures.whole ∙ c.view_len.ensures in
    let widths : c.deref-2.result.now ≡ column_widths c.arrange-all.result.columns (pieces c.arrange-all.result.count c.arrange-all.result.columns (viewed c.args.atoms)) = c.deref-2.ensures.value ∙ c.in_ok-widths.ensures in
    let l : Lines = record { atoms = c.args.atoms; columns = c.arrange-all.result.columns; widths = c.deref-2.result } in
    let size : c.saturating_sub-size.result ≡ row_bytes c.deref-2.result.now - 1 = omega (arith, ap row_bytes (c.deref.ensures.value ∙ sym c.deref-2.ensures.value), c.row_bytes.ensures.value) in
    let many = λ (k : ℕ) (h : k < c.arrange-all.result.count). number_size_of l c.arrange-all.result.count k c.saturating_sub-size.result c.requires.kind widths whole c.arrange-all.ensures.column size h in
    let items : c.append_rows.new.into.items ≡ flat_map (row_at l) (range_with_len 0 c.arrange-all.result.count) =
    c.append_rows.ensures ∙ ap (λ t. t ++ flat_map (row_at l) (range_with_len 0 c.arrange-all.result.count)) c.in_ok-characters.ensures.ok.0 in
    answers_as (characters_of c.shape_with.result c.append_rows.new.into.items) (row_characters c.args.axes.now (number_rows c.args.axes.now (viewed c.args.atoms))) c.make.result
    (ap (λ s. characters_of s c.append_rows.new.into.items) c.shape_with.ensures ∙ ap (characters_of (c.arrange-all.result.frame.now ++ c.saturating_sub-size.result ∷ [])) items
    ∙ formatted_is l c.args.axes.now c.arrange-all.result.frame.now c.arrange-all.result.count c.saturating_sub-size.result c.arrange-all.ensures.frame c.arrange-all.ensures.lines c.arrange-all.ensures.columns c.arrange-all.ensures.some c.requires.kind widths many)
    c.make.ensures.limited
