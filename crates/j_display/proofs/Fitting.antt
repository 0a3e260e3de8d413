-- How long rows are.
use Rattle.std.proofs.Common.{◌≡◌, ℕ, ◌+◌, ◌-◌, ◌*◌, ◌<◌, ◌≤◌, List, [], ◌∷◌, ◌++◌, length, map, take, drop, get_or, fold, replicate, refl, sym, ap, ◌∙◌, arith}
use Prim.Native.Nat.{zero, suc}
use Rattle.std.specs.List.{flat_map, join_by, zip, range_with_len}
use Rattle.std.proofs.lemmas.List.{length-append, length-replicate, length-take, length-drop}
use Rattle.std.proofs.lemmas.List.Sums.{sum_by-cons}
use Rattle.std.proofs.lemmas.List.FromFn.{length-map-range_with_len, get_or-map-range_with_len}
use Rattle.std.proofs.lemmas.Nat.{row_fits}
use Rattle.std.proofs.Math.Nat.{add-mul}
use Rattle.j_definitions.specs.Array.{Atom, product}
use Rattle.j_display.specs.Rows.{atom_text, pieces, wider, text_widths, column_widths, set_right, stacked, joined}
use Rattle.j_display.specs.Sizes.{row_bytes, stacked_bytes}
use Rattle.j_display.specs.Lines.{between}
use Rattle.j_display.proofs.Cells.{cell_text}
use Rattle.j_display.proofs.Stacking.{first_items, item_rows, items_all, written}

-- each atom of a line is no wider than its column
abbrev pub Fits : List ℕ → List Atom → Type 0
Fits [] [] = Unit {0}
Fits (w ∷ ws) (x ∷ xs) = (length (atom_text x) ≤ w) × Fits ws xs
Fits [] (x ∷ xs) = ⊥
Fits (w ∷ ws) [] = ⊥

length-wider : (ws : List ℕ) (line : List Atom) → length line ≡ length ws → length (wider ws (text_widths line)) ≡ length ws
length-wider [] [] h = refl
length-wider [] (x ∷ xs) h = refl
length-wider (w ∷ ws) [] h = absurd (omega arith)
length-wider (w ∷ ws) (x ∷ xs) h = ap suc (length-wider ws xs (omega arith))

-- columns that are made wider still fit
still_fits : (ws : List ℕ) (line xs : List Atom) → length line ≡ length ws → Fits ws xs → Fits (wider ws (text_widths line)) xs
still_fits [] line [] h f = tt
still_fits [] line (x ∷ xs) h f = absurd f
still_fits (w ∷ ws) line [] h f = absurd f
still_fits (w ∷ ws) [] (x ∷ xs) h f = absurd (omega arith)
still_fits (w ∷ ws) (y ∷ ys) (x ∷ xs) h f = (omega (arith, f.0), still_fits ws ys xs (omega arith) f.1)

now_fits : (ws : List ℕ) (line : List Atom) → length line ≡ length ws → Fits (wider ws (text_widths line)) line
now_fits [] [] h = tt
now_fits [] (x ∷ xs) h = absurd (omega arith)
now_fits (w ∷ ws) [] h = absurd (omega arith)
now_fits (w ∷ ws) (x ∷ xs) h = (omega arith, now_fits ws xs (omega arith))

fits_on : (lines : List (List Atom)) (ws : List ℕ) (xs : List Atom) → ((k : ℕ) → k < length lines → length (get_or lines k []) ≡ length ws) → Fits ws xs → Fits (fold wider ws (map text_widths lines)) xs
fits_on [] ws xs h f = f
fits_on (l ∷ ls) ws xs h f =
    let first : length l ≡ length ws = h 0 (omega arith) in
    fits_on ls (wider ws (text_widths l)) xs (λ k g. h (suc k) (omega arith) ∙ sym (length-wider ws l first)) (still_fits ws l xs first f)

all_fit : (lines : List (List Atom)) (ws : List ℕ) (k : ℕ) → ((i : ℕ) → i < length lines → length (get_or lines i []) ≡ length ws) → k < length lines →
    Fits (fold wider ws (map text_widths lines)) (get_or lines k [])
all_fit [] ws k h g = absurd (omega arith)
all_fit (l ∷ ls) ws zero h g =
    let first : length l ≡ length ws = h 0 (omega arith) in
    fits_on ls (wider ws (text_widths l)) l (λ i j. h (suc i) (omega arith) ∙ sym (length-wider ws l first)) (now_fits ws l first)
all_fit (l ∷ ls) ws (suc k) h g =
    let first : length l ≡ length ws = h 0 (omega arith) in
    all_fit ls (wider ws (text_widths l)) k (λ i j. h (suc i) (omega arith) ∙ sym (length-wider ws l first)) (omega arith)

length-folded : (lines : List (List Atom)) (ws : List ℕ) → ((i : ℕ) → i < length lines → length (get_or lines i []) ≡ length ws) → length (fold wider ws (map text_widths lines)) ≡ length ws
length-folded [] ws h = refl
length-folded (l ∷ ls) ws h =
    let first : length l ≡ length ws = h 0 (omega arith) in
    length-folded ls (wider ws (text_widths l)) (λ k g. h (suc k) (omega arith) ∙ sym (length-wider ws l first)) ∙ length-wider ws l first

pub line_many : {X : Type 0} (count n k : ℕ) (xs : List X) → count * n ≡ length xs → k < count → length (take n (drop (k * n) xs)) ≡ n
line_many count n k xs e h = omega (arith, length-take n (drop (k * n) xs), length-drop (k * n) xs, row_fits k n count n h (omega arith))

piece_many : (count n : ℕ) (xs : List Atom) → count * n ≡ length xs → (k : ℕ) → k < length (pieces count n xs) → length (get_or (pieces count n xs) k []) ≡ length {A = ℕ} (replicate n 0)
piece_many count n xs e k h =
    let less : k < count = omega (arith, length-map-range_with_len (λ i. take n (drop (i * n) xs)) 0 count) in
    ap length (get_or-map-range_with_len (λ i. take n (drop (i * n) xs)) 0 count k k [] less (omega arith)) ∙ line_many count n k xs e less ∙ sym (length-replicate n 0)

pub length-column_widths : (count n : ℕ) (xs : List Atom) → count * n ≡ length xs → length (column_widths n (pieces count n xs)) ≡ n
length-column_widths count n xs e = length-folded (pieces count n xs) (replicate n 0) (piece_many count n xs e) ∙ length-replicate n 0

line_fits : (count n k : ℕ) (xs : List Atom) → count * n ≡ length xs → k < count → Fits (column_widths n (pieces count n xs)) (take n (drop (k * n) xs))
line_fits count n k xs e h =
    let less : k < length (pieces count n xs) = omega (arith, length-map-range_with_len (λ i. take n (drop (i * n) xs)) 0 count) in
    let there : get_or (pieces count n xs) k [] ≡ take n (drop (k * n) xs) = get_or-map-range_with_len (λ i. take n (drop (i * n) xs)) 0 count k k [] h (omega arith) in
    rw there at (all_fit (pieces count n xs) (replicate n 0) k (piece_many count n xs e) less)

length-set_right : (w : ℕ) (text : List ℕ) → length text ≤ w → length (set_right w text) ≡ w
length-set_right w text h = omega (arith, length-append (replicate (w - length text) 32) text, length-replicate {A = ℕ} (w - length text) 32)

spaced_many : (ws : List ℕ) (line : List Atom) → Fits ws line → length (flat_map (λ p. (32 ∷ []) ++ cell_text p) (zip ws line)) ≡ row_bytes ws
spaced_many [] [] f = refl
spaced_many [] (x ∷ xs) f = absurd f
spaced_many (w ∷ ws) [] f = absurd f
spaced_many (w ∷ ws) (x ∷ xs) f =
    omega (arith, sum_by-cons (λ v. v + 1) w ws, length-append (32 ∷ cell_text (w, x)) (flat_map (λ p. (32 ∷ []) ++ cell_text p) (zip ws xs)), length-set_right w (atom_text x) f.0, spaced_many ws xs f.1)

row_many : (ws : List ℕ) (line : List Atom) → Fits ws line → 0 < length ws → length (join_by cell_text (32 ∷ []) (zip ws line)) + 1 ≡ row_bytes ws
row_many [] line f h = absurd (omega arith)
row_many (w ∷ ws) [] f h = absurd f
row_many (w ∷ ws) (x ∷ xs) f h =
    omega (arith, sum_by-cons (λ v. v + 1) w ws, length-append (cell_text (w, x)) (flat_map (λ p. (32 ∷ []) ++ cell_text p) (zip ws xs)), length-set_right w (atom_text x) f.0, spaced_many ws xs f.1)

-- each row of numbers takes as many bytes, with its line feed
pub number_row_many : (count n k : ℕ) (xs : List Atom) (ws : List ℕ) → ws ≡ column_widths n (pieces count n xs) → count * n ≡ length xs → k < count → 0 < n →
    length (join_by cell_text (32 ∷ []) (zip ws (take n (drop (k * n) xs)))) + 1 ≡ row_bytes ws
number_row_many count n k xs ws ew e h some =
    let many : length (column_widths n (pieces count n xs)) ≡ n = length-column_widths count n xs e in
    ap (λ vs. length (join_by cell_text (32 ∷ []) (zip vs (take n (drop (k * n) xs)))) + 1) ew
    ∙ row_many (column_widths n (pieces count n xs)) (take n (drop (k * n) xs)) (line_fits count n k xs e h) (omega arith) ∙ ap row_bytes (sym ew)

-- the first items of a frame
first_many : (frame : List ℕ) (f : ℕ → List ℕ) (from each k : ℕ) → ((i : ℕ) → i < k → length (joined (item_rows frame f from i)) ≡ each) →
    length (joined (first_items frame f from k)) ≡ k * each + (k - 1) * length frame
first_many frame f from each zero h = omega arith
first_many frame f from each (suc zero) h =
    omega (arith, ap length (written frame f from 0), length-append (joined (first_items frame f from 0)) (replicate (between 0 (length frame)) 10 ++ joined (item_rows frame f from 0)), h 0 (omega arith))
first_many frame f from each (suc (suc k)) h =
    let before = first_many frame f from each (suc k) (λ i g. h i (omega arith)) in
    let one : suc k + 1 ≡ suc (suc k) = omega arith in
    let rows : List (List ℕ) = item_rows frame f from (suc k) in
    let size : length (joined (first_items frame f from (suc (suc k)))) ≡ length (joined (first_items frame f from (suc k))) + (length {A = ℕ} (replicate (length frame) 10) + length (joined rows)) =
    ap (λ m. length (joined (first_items frame f from m))) (sym one) ∙ ap length (written frame f from (suc k)) ∙ length-append (joined (first_items frame f from (suc k))) (replicate (length frame) 10 ++ joined rows)
    ∙ ap (λ m. length (joined (first_items frame f from (suc k))) + m) (length-append (replicate (length frame) 10) (joined rows)) in
    let fewer : suc k - 1 ≡ k = omega arith in
    let more : suc (suc k) - 1 ≡ k + 1 = omega arith in
    let a : (suc k - 1) * length frame ≡ k * length frame = ap (λ m. m * length frame) fewer in
    let b : (suc (suc k) - 1) * length frame ≡ k * length frame + 1 * length frame = ap (λ m. m * length frame) more ∙ add-mul k 1 (length frame) in
    let d : suc (suc k) * each ≡ suc k * each + 1 * each = ap (λ m. m * each) (sym one) ∙ add-mul (suc k) 1 each in
    let last : length (joined rows) ≡ each = h (suc k) (omega arith) in
    let gap : length {A = ℕ} (replicate (length frame) 10) ≡ length frame = length-replicate (length frame) 10 in
    omega arith

-- rows of one length that a frame arranges
pub stacked_many : (frame : List ℕ) (f : ℕ → List ℕ) (from row : ℕ) → ((k : ℕ) → k < from + product frame → length (f k) + 1 ≡ row) →
    length (joined (stacked frame (map f (range_with_len from (product frame))))) ≡ stacked_bytes frame row
stacked_many [] f from row h = omega (arith, length-append (f from ++ 10 ∷ []) [], length-append (f from) (10 ∷ []), h from (omega arith))
stacked_many (n ∷ frame) f from row h =
    let each = λ (i : ℕ) (g : i < n). stacked_many frame f (from + i * product frame) row (λ k j. h k (omega (arith, row_fits i (product frame) n (product frame) g (omega arith)))) in
    ap (λ rows. length (joined rows)) (sym (items_all n frame f from)) ∙ first_many frame f from (stacked_bytes frame row) n each
