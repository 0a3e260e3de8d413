-- The rows of nouns without boxes: how long and how many they are.
use Rattle.std.proofs.Common.{◌≡◌, ◌≢◌, ℕ, ◌+◌, ◌-◌, ◌*◌, ◌<◌, ◌≤◌, max, List, [], ◌∷◌, ◌++◌, length, map, take, drop, replicate, refl, sym, ap, ◌∙◌, subst, arith}
use Prim.Native.Nat.{zero, suc}
use Rattle.std.specs.List.{range_with_len}
use Rattle.std.proofs.lemmas.List.{length-append, length-replicate}
use Rattle.std.proofs.lemmas.Nat.{row_fits}
use Rattle.std.proofs.Math.Nat.{add-mul}
use Rattle.j_definitions.specs.Array.{Atom, byte, product}
use Rattle.j_definitions.specs.declared.Kind.{Kind}
use Rattle.j_definitions.specs.declared.Kind.TheVariants.{Number, Character, Boxed}
use Rattle.j_noun.specs.Viewed.{viewed, kind_viewed}
use Rattle.j_display.specs.Rows.{pieces, line_row, line_frame, line_length, column_widths, stacked, lines_stacked, rows_without_atoms, width_of}
use Rattle.j_display.specs.Sizes.{row_bytes, stacked_bytes}
use Rattle.j_display.specs.declared.lines.Lines.{Lines}
use Rattle.j_display.specs.Lines.{between, row_at, rows_from, AreWidths, HasLines}
use Rattle.j_display.proofs.Bounds.{factors_some}
use Rattle.j_display.proofs.Cells.{bytes_row}
use Rattle.j_display.proofs.Fitting.{line_many, number_row_many, length-column_widths}
use Rattle.j_display.proofs.Stacking.{first_items, item_rows, items_more, items_all}
use Rattle.j_display.proofs.Wholes.{told, all_told}

-- the rows of all lines
pub lines_whole : (k : Kind) (ws frame : List ℕ) (xs : List Atom) (columns : ℕ) → AreWidths k columns (pieces (product frame) columns xs) ws → stacked frame (told k ws columns xs frame) ≡ lines_stacked k frame columns xs
lines_whole Number ws frame xs columns h =
    ap (stacked frame) (all_told Number ws columns xs frame) ∙ ap (λ vs. stacked frame (map (line_row Number vs) (pieces (product frame) columns xs))) h
lines_whole Character ws frame xs columns h = ap (stacked frame) (all_told Character ws columns xs frame)
lines_whole Boxed ws frame xs columns h = ap (stacked frame) (all_told Boxed ws columns xs frame)

-- how long each row is
pub characters_size : (l : Lines) (bs : List ℕ) (count k : ℕ) → kind_viewed l.atoms ≡ Character → viewed l.atoms ≡ map byte bs → count * l.columns ≡ length bs → k < count → length (row_at l k) ≡ l.columns
characters_size l bs count k ek ev e h =
    ap (λ kind. length (line_row kind l.widths.now (take l.columns (drop (k * l.columns) (viewed l.atoms))))) ek
    ∙ ap (λ xs. length (line_row Character l.widths.now (take l.columns (drop (k * l.columns) xs)))) ev ∙ ap length (bytes_row bs (k * l.columns) l.columns) ∙ line_many count l.columns k bs e h

pub numbers_size : (l : Lines) (count k : ℕ) → kind_viewed l.atoms ≡ Number → AreWidths (kind_viewed l.atoms) l.columns (pieces count l.columns (viewed l.atoms)) l.widths.now → count * l.columns ≡ length (viewed l.atoms) → 0 < l.columns → k < count →
    length (row_at l k) ≡ row_bytes l.widths.now - 1
numbers_size l count k ek ew e some h =
    let P : Kind → Type 0 = λ kind. AreWidths kind l.columns (pieces count l.columns (viewed l.atoms)) l.widths.now in
    let widths : l.widths.now ≡ column_widths l.columns (pieces count l.columns (viewed l.atoms)) = subst P ek ew in
    let many = number_row_many count l.columns k (viewed l.atoms) l.widths.now widths e h some in
    ap (λ kind. length (line_row kind l.widths.now (take l.columns (drop (k * l.columns) (viewed l.atoms))))) ek ∙ omega arith

-- how many rows the first items have
first_rows : (frame : List ℕ) (f : ℕ → List ℕ) (from each k : ℕ) → ((i : ℕ) → i < k → length (item_rows frame f from i) ≡ each) → length (first_items frame f from k) ≡ k * each + (k - 1) * length frame
first_rows frame f from each zero h = omega arith
first_rows frame f from each (suc zero) h =
    omega (arith, ap length (items_more frame f from 0), length-append (first_items frame f from 0) (replicate (between 0 (length frame)) [] ++ item_rows frame f from 0), h 0 (omega arith))
first_rows frame f from each (suc (suc k)) h =
    let before = first_rows frame f from each (suc k) (λ i g. h i (omega arith)) in
    let one : suc k + 1 ≡ suc (suc k) = omega arith in
    let rows : List (List ℕ) = item_rows frame f from (suc k) in
    let size : length (first_items frame f from (suc (suc k))) ≡ length (first_items frame f from (suc k)) + (length {A = List ℕ} (replicate (length frame) []) + length rows) =
    ap (λ m. length (first_items frame f from m)) (sym one) ∙ ap length (items_more frame f from (suc k)) ∙ length-append (first_items frame f from (suc k)) (replicate (length frame) [] ++ rows)
    ∙ ap (λ m. length (first_items frame f from (suc k)) + m) (length-append (replicate (length frame) []) rows) in
    let fewer : suc k - 1 ≡ k = omega arith in
    let more : suc (suc k) - 1 ≡ k + 1 = omega arith in
    let a : (suc k - 1) * length frame ≡ k * length frame = ap (λ m. m * length frame) fewer in
    let b : (suc (suc k) - 1) * length frame ≡ k * length frame + 1 * length frame = ap (λ m. m * length frame) more ∙ add-mul k 1 (length frame) in
    let d : suc (suc k) * each ≡ suc k * each + 1 * each = ap (λ m. m * each) (sym one) ∙ add-mul (suc k) 1 each in
    let last : length rows ≡ each = h (suc k) (omega arith) in
    let gap : length {A = List ℕ} (replicate (length frame) []) ≡ length frame = length-replicate (length frame) [] in
    omega arith

pub rows_many : (frame : List ℕ) (f : ℕ → List ℕ) (from : ℕ) → length (stacked frame (map f (range_with_len from (product frame)))) ≡ stacked_bytes frame 1
rows_many [] f from = refl
rows_many (n ∷ frame) f from =
    ap length (sym (items_all n frame f from)) ∙ first_rows frame f from (stacked_bytes frame 1) n (λ i g. rows_many frame f (from + i * product frame))

-- how wide they are
pub width-append : (xs ys : List (List ℕ)) → width_of (xs ++ ys) ≡ max (width_of xs) (width_of ys)
width-append [] ys = omega arith
width-append (x ∷ xs) ys = omega (arith, width-append xs ys)

pub width-empties : (n : ℕ) → width_of (replicate n []) ≡ 0
width-empties zero = refl
width-empties (suc n) = omega (arith, width-empties n)

first_wide : (frame : List ℕ) (f : ℕ → List ℕ) (from size k : ℕ) → ((i : ℕ) → i < suc k → width_of (item_rows frame f from i) ≡ size) → width_of (first_items frame f from (k + 1)) ≡ size
first_wide frame f from size zero h =
    omega (arith, ap width_of (items_more frame f from 0), width-append (first_items frame f from 0) (replicate (between 0 (length frame)) [] ++ item_rows frame f from 0), h 0 (omega arith))
first_wide frame f from size (suc k) h =
    let one : k + 1 ≡ suc k = omega arith in
    let before : width_of (first_items frame f from (suc k)) ≡ size = sym (ap (λ m. width_of (first_items frame f from m)) one) ∙ first_wide frame f from size k (λ i g. h i (omega arith)) in
    let gap : List (List ℕ) = replicate (between (suc k) (length frame)) [] in
    let rows : List (List ℕ) = item_rows frame f from (suc k) in
    omega (arith, ap width_of (items_more frame f from (suc k)), width-append (first_items frame f from (suc k)) (gap ++ rows), width-append gap rows, width-empties (between (suc k) (length frame)), h (suc k) (omega arith))

pub rows_wide : (frame : List ℕ) (f : ℕ → List ℕ) (from size : ℕ) → 0 < product frame → ((k : ℕ) → k < from + product frame → length (f k) ≡ size) → width_of (stacked frame (map f (range_with_len from (product frame)))) ≡ size
rows_wide [] f from size some h = omega (arith, h from (omega arith))
rows_wide (zero ∷ frame) f from size some h = absurd (omega (arith, factors_some zero (product frame) some))
rows_wide (suc n ∷ frame) f from size some h =
    let each = λ (i : ℕ) (g : i < suc n). rows_wide frame f (from + i * product frame) size (factors_some (suc n) (product frame) some).1
    (λ k j. h k (omega (arith, row_fits i (product frame) (suc n) (product frame) g (omega arith)))) in
    let one : n + 1 ≡ suc n = omega arith in
    ap width_of (sym (items_all (suc n) frame f from)) ∙ sym (ap (λ m. width_of (first_items frame f from m)) one) ∙ first_wide frame f from size n each

-- the rows of lines as they are kept are those of the noun
pub leaf_rows_are : (l : Lines) (s frame : List ℕ) (count : ℕ) → frame ≡ line_frame s → l.columns ≡ line_length s → product frame ≡ count → AreWidths (kind_viewed l.atoms) l.columns (pieces count l.columns (viewed l.atoms)) l.widths.now →
    rows_from frame l 0 ≡ lines_stacked (kind_viewed l.atoms) (line_frame s) (line_length s) (viewed l.atoms)
leaf_rows_are l s frame count ef ec ep aw =
    let P : ℕ → Type 0 = λ n. AreWidths (kind_viewed l.atoms) l.columns (pieces n l.columns (viewed l.atoms)) l.widths.now in
    lines_whole (kind_viewed l.atoms) l.widths.now frame (viewed l.atoms) l.columns (subst P (sym ep) aw)
    ∙ ap (λ f. lines_stacked (kind_viewed l.atoms) f l.columns (viewed l.atoms)) ef ∙ ap (λ n. lines_stacked (kind_viewed l.atoms) (line_frame s) n (viewed l.atoms)) ec

pub leaf_width : (l : Lines) (s frame : List ℕ) (count size : ℕ) → frame ≡ line_frame s → l.columns ≡ line_length s → product frame ≡ count → 0 < count → AreWidths (kind_viewed l.atoms) l.columns (pieces count l.columns (viewed l.atoms)) l.widths.now →
    ((k : ℕ) → k < count → length (row_at l k) ≡ size) → size ≡ width_of (lines_stacked (kind_viewed l.atoms) (line_frame s) (line_length s) (viewed l.atoms))
leaf_width l s frame count size ef ec ep some aw many =
    sym (sym (ap width_of (leaf_rows_are l s frame count ef ec ep aw)) ∙ rows_wide frame (row_at l) 0 size (omega arith) (λ k h. many k (omega arith)))

pub leaf_height : (l : Lines) (s frame : List ℕ) (count height : ℕ) → frame ≡ line_frame s → l.columns ≡ line_length s → product frame ≡ count → AreWidths (kind_viewed l.atoms) l.columns (pieces count l.columns (viewed l.atoms)) l.widths.now →
    height ≡ stacked_bytes frame 1 → height ≡ length (lines_stacked (kind_viewed l.atoms) (line_frame s) (line_length s) (viewed l.atoms))
leaf_height l s frame count height ef ec ep aw eh = eh ∙ sym (rows_many frame (row_at l) 0) ∙ ap length (leaf_rows_are l s frame count ef ec ep aw)

pub number_widths_few : (l : Lines) (count : ℕ) → kind_viewed l.atoms ≡ Number → AreWidths (kind_viewed l.atoms) l.columns (pieces count l.columns (viewed l.atoms)) l.widths.now → count * l.columns ≡ length (viewed l.atoms) → l.columns ≤ 4194304 → length l.widths.now ≤ 4194304
number_widths_few l count ek ew e few =
    let P : Kind → Type 0 = λ kind. AreWidths kind l.columns (pieces count l.columns (viewed l.atoms)) l.widths.now in
    let widths : l.widths.now ≡ column_widths l.columns (pieces count l.columns (viewed l.atoms)) = subst P ek ew in
    omega (arith, ap length widths, length-column_widths count l.columns (viewed l.atoms) e)

pub number_size_of : (l : Lines) (count k size : ℕ) → kind_viewed l.atoms ≡ Number → l.widths.now ≡ column_widths l.columns (pieces count l.columns (viewed l.atoms)) → count * l.columns ≡ length (viewed l.atoms) → 0 < l.columns → size ≡ row_bytes l.widths.now - 1 → k < count →
    length (row_at l k) ≡ size
number_size_of l count k size ek ew e some es h =
    let many = number_row_many count l.columns k (viewed l.atoms) l.widths.now ew e h some in
    ap (λ kind. length (line_row kind l.widths.now (take l.columns (drop (k * l.columns) (viewed l.atoms))))) ek ∙ omega arith

pub leaf_has_lines : (l : Lines) (count m : ℕ) → kind_viewed l.atoms ≢ Boxed → m ≡ count → count * l.columns ≡ length (viewed l.atoms) → length (viewed l.atoms) ≤ 4194304 → count ≤ 4194304 → AreWidths (kind_viewed l.atoms) l.columns (pieces count l.columns (viewed l.atoms)) l.widths.now → HasLines l m
leaf_has_lines l count m nb em e few counted aw =
    let enough : m * l.columns ≡ length (viewed l.atoms) = ap (λ n. n * l.columns) em ∙ e in
    let P : Kind → Type 0 = λ kind. AreWidths kind l.columns (pieces count l.columns (viewed l.atoms)) l.widths.now in
    record { not_boxed = nb; enough = omega arith; counted = omega arith; few = few; wide = λ ek. (let widths : l.widths.now ≡ column_widths l.columns (pieces count l.columns (viewed l.atoms)) = subst P ek aw in ap length widths ∙ length-column_widths count l.columns (viewed l.atoms) e) }

pub no_rows_of : (s : List ℕ) → (length s ≡ 1 → ⊥) → rows_without_atoms s ≡ []
no_rows_of [] h = refl
no_rows_of (n ∷ []) h = absurd (h refl)
no_rows_of (n ∷ m ∷ s) h = refl

pub one_row_of : (s : List ℕ) → length s ≡ 1 → rows_without_atoms s ≡ [] ∷ []
one_row_of [] h = absurd (omega arith)
one_row_of (n ∷ []) h = refl
one_row_of (n ∷ m ∷ s) h = absurd (omega arith)
