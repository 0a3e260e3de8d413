-- Rows of numbers.
use Rattle.std.proofs.Common.{◌≡◌, ℕ, ℤ, pos, ◌+◌, ◌<◌, ◌≤◌, List, [], ◌∷◌, ◌++◌, length, map, take, drop, get_or, replicate, refl, sym, ap, ◌∙◌, arith, append_assoc}
use Rattle.std.specs.List.{flat_map, join_by, zip}
use Rattle.std.proofs.lemmas.List.{get_or-drop, get_or-take, length-drop, length-take, length-append, take_all, take-map, drop-map}
use Rattle.std.proofs.lemmas.Slice.Zip.{get_or-zip, length-zip}
use Rattle.j_definitions.specs.Array.{Atom, number, byte}
use Rattle.j_definitions.specs.Cells.{atom_at}
use Rattle.j_numbers.specs.Printed.{printed}
use Rattle.j_display.specs.Rows.{atom_text, set_right}
use Rattle.j_display.specs.Lines.{between}
use Rattle.j_display.proofs.Stacking.{join_by_more, join_by_fits}

abbrev pub cell_text : ℕ × Atom → List ℕ
cell_text p = set_right p.0 (atom_text p.1)

-- the columns and the atoms of a line that begins at a place
abbrev pub cells : List ℕ → List Atom → ℕ → List (ℕ × Atom)
cells ws xs i = zip ws (take (length ws) (drop i xs))

abbrev pub no_cell : ℕ × Atom
no_cell = (0, number (pos 0))

length-line : (ws : List ℕ) (xs : List Atom) (i : ℕ) → i + length ws ≤ length xs → length (take (length ws) (drop i xs)) ≡ length ws
length-line ws xs i h = omega (arith, length-take (length ws) (drop i xs), length-drop i xs)

length-cells : (ws : List ℕ) (xs : List Atom) (i : ℕ) → i + length ws ≤ length xs → length (cells ws xs i) ≡ length ws
length-cells ws xs i h = omega (arith, length-zip ws (take (length ws) (drop i xs)), length-line ws xs i h)

cell_at : (ws : List ℕ) (xs : List Atom) (i j : ℕ) (z : ℤ) → i + length ws ≤ length xs → j < length ws → atom_at xs (i + j) ≡ number z →
    cell_text (get_or (cells ws xs i) j no_cell) ≡ set_right (get_or ws j 0) (printed z)
cell_at ws xs i j z enough h e =
    let line : j < length (take (length ws) (drop i xs)) = omega (arith, length-line ws xs i enough) in
    ap cell_text (get_or-zip ws (take (length ws) (drop i xs)) j no_cell h line)
    ∙ ap (λ x. set_right (get_or ws j 0) (atom_text x)) (get_or-take (length ws) (drop i xs) j (number (pos 0)) h ∙ get_or-drop i xs j (number (pos 0)) ∙ e)

-- one more number
pub number_more : (ws : List ℕ) (xs : List Atom) (i j : ℕ) (z : ℤ) (old now parted new : List ℕ) → i + length ws ≤ length xs → j < length ws → atom_at xs (i + j) ≡ number z →
    now ≡ old ++ join_by cell_text (32 ∷ []) (take j (cells ws xs i)) → parted ≡ now ++ replicate (between j 1) 32 → new ≡ parted ++ set_right (get_or ws j 0) (printed z) →
    new ≡ old ++ join_by cell_text (32 ∷ []) (take (j + 1) (cells ws xs i))
number_more ws xs i j z old now parted new enough h e en ep ew =
    let there : j < length (cells ws xs i) = omega (arith, length-cells ws xs i enough) in
    let more : join_by cell_text (32 ∷ []) (take (j + 1) (cells ws xs i)) ≡ join_by cell_text (32 ∷ []) (take j (cells ws xs i)) ++ (replicate (between j 1) 32 ++ set_right (get_or ws j 0) (printed z)) =
    join_by_more cell_text 1 32 (cells ws xs i) j no_cell there
    ∙ ap (λ t. join_by cell_text (32 ∷ []) (take j (cells ws xs i)) ++ (replicate (between j 1) 32 ++ t)) (cell_at ws xs i j z enough h e) in
    ew ∙ ap (λ r. r ++ set_right (get_or ws j 0) (printed z)) (ep ∙ ap (λ r. r ++ replicate (between j 1) 32) en)
    ∙ append_assoc (old ++ join_by cell_text (32 ∷ []) (take j (cells ws xs i))) (replicate (between j 1) 32) (set_right (get_or ws j 0) (printed z))
    ∙ append_assoc old (join_by cell_text (32 ∷ []) (take j (cells ws xs i))) (replicate (between j 1) 32 ++ set_right (get_or ws j 0) (printed z))
    ∙ ap (λ r. old ++ r) (sym more)

-- there is room for it
pub number_fits : (ws : List ℕ) (xs : List Atom) (i j : ℕ) (z : ℤ) (old now : List ℕ) (many size least capacity : ℕ) → i + length ws ≤ length xs → j < length ws → atom_at xs (i + j) ≡ number z →
    now ≡ old ++ join_by cell_text (32 ∷ []) (take j (cells ws xs i)) → many ≡ length old → size ≡ length now →
    many + length (join_by cell_text (32 ∷ []) (cells ws xs i)) ≤ least → least ≤ capacity → size + between j 1 + length (set_right (get_or ws j 0) (printed z)) ≤ capacity
number_fits ws xs i j z old now many size least capacity enough h e en em es room more =
    let there : j < length (cells ws xs i) = omega (arith, length-cells ws xs i enough) in
    let fits : length (join_by cell_text (32 ∷ []) (take j (cells ws xs i))) + between j 1 + length (cell_text (get_or (cells ws xs i) j no_cell)) ≤ length (join_by cell_text (32 ∷ []) (cells ws xs i)) =
    join_by_fits cell_text 1 32 (cells ws xs i) j no_cell there in
    let text : length (cell_text (get_or (cells ws xs i) j no_cell)) ≡ length (set_right (get_or ws j 0) (printed z)) = ap length (cell_at ws xs i j z enough h e) in
    let now_many : length now ≡ length old + length (join_by cell_text (32 ∷ []) (take j (cells ws xs i))) = ap length en ∙ length-append old (join_by cell_text (32 ∷ []) (take j (cells ws xs i))) in
    omega arith

-- there is room for the blank before it
pub blank_fits : (ws : List ℕ) (xs : List Atom) (i j : ℕ) (old now : List ℕ) (many size least capacity : ℕ) → i + length ws ≤ length xs → j < length ws →
    now ≡ old ++ join_by cell_text (32 ∷ []) (take j (cells ws xs i)) → many ≡ length old → size ≡ length now →
    many + length (join_by cell_text (32 ∷ []) (cells ws xs i)) ≤ least → least ≤ capacity → size + between j 1 ≤ capacity
blank_fits ws xs i j old now many size least capacity enough h en em es room more =
    let there : j < length (cells ws xs i) = omega (arith, length-cells ws xs i enough) in
    let fits : length (join_by cell_text (32 ∷ []) (take j (cells ws xs i))) + between j 1 + length (cell_text (get_or (cells ws xs i) j no_cell)) ≤ length (join_by cell_text (32 ∷ []) (cells ws xs i)) =
    join_by_fits cell_text 1 32 (cells ws xs i) j no_cell there in
    let now_many : length now ≡ length old + length (join_by cell_text (32 ∷ []) (take j (cells ws xs i))) = ap length en ∙ length-append old (join_by cell_text (32 ∷ []) (take j (cells ws xs i))) in
    omega arith

-- the whole line
pub numbers_done : (ws : List ℕ) (xs : List Atom) (i j : ℕ) (old now : List ℕ) → i + length ws ≤ length xs → length ws ≤ j → now ≡ old ++ join_by cell_text (32 ∷ []) (take j (cells ws xs i)) →
    now ≡ old ++ join_by cell_text (32 ∷ []) (cells ws xs i)
numbers_done ws xs i j old now enough h en =
    let all : length (cells ws xs i) ≤ j = omega (arith, length-cells ws xs i enough) in
    en ∙ ap (λ ps. old ++ join_by cell_text (32 ∷ []) ps) (take_all j (cells ws xs i) all)

-- a row of characters
texts_of_bytes : (bs : List ℕ) → flat_map atom_text (map byte bs) ≡ bs
texts_of_bytes [] = refl
texts_of_bytes (b ∷ bs) = ap (λ r. b ∷ r) (texts_of_bytes bs)

pub bytes_row : (bs : List ℕ) (i n : ℕ) → flat_map atom_text (take n (drop i (map byte bs))) ≡ take n (drop i bs)
bytes_row bs i n = ap (flat_map atom_text) (ap (take n) (drop-map byte i bs) ∙ take-map byte n (drop i bs)) ∙ texts_of_bytes (take n (drop i bs))
