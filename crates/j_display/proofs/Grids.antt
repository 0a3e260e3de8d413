-- How wide and how high boxes in lines are.
use Rattle.std.proofs.Common.{◌≡◌, ℕ, ◌+◌, ◌-◌, ◌*◌, ◌<◌, ◌≤◌, List, [], ◌∷◌, ◌++◌, length, map, take, drop, get_or, fold, replicate, refl, sym, ap, ◌∙◌, subst, arith}
use Prim.Native.Nat.{zero, suc}
use Rattle.std.specs.List.{flat_map, zip, range_with_len, sum_by}
use Rattle.std.proofs.lemmas.List.{length-append, length-replicate, length-map, take-map, drop-map}
use Rattle.std.proofs.lemmas.List.Sums.{sum_by-cons}
use Rattle.std.proofs.lemmas.List.FromFn.{length-map-range_with_len, get_or-map-range_with_len}
use Rattle.std.proofs.Math.Nat.{add-mul}
use Rattle.j_definitions.specs.Array.{product}
use Rattle.j_display.specs.Rows.{pieces, wider, greatest, width_of, height_of, box_widths, padded, box_cell, box_row, rule_part, rule, gap, rules_above, above, box_line, grid, joined}
use Rattle.j_display.specs.Sizes.{row_bytes}
use Rattle.j_display.specs.Measured.{grid_height, grid_bytes}
use Rattle.j_display.proofs.Fitting.{line_many}
use Rattle.j_display.proofs.LeafRows.{width-append, width-empties}

-- each of some widths is within its column
abbrev pub FitsIn : List ℕ → List ℕ → Type 0
FitsIn [] [] = Unit {0}
FitsIn (w ∷ ws) (v ∷ vs) = (v ≤ w) × FitsIn ws vs
FitsIn [] (v ∷ vs) = ⊥
FitsIn (w ∷ ws) [] = ⊥

length-wider : (ws vs : List ℕ) → length vs ≡ length ws → length (wider ws vs) ≡ length ws
length-wider [] [] h = refl
length-wider [] (v ∷ vs) h = refl
length-wider (w ∷ ws) [] h = absurd (omega arith)
length-wider (w ∷ ws) (v ∷ vs) h = ap suc (length-wider ws vs (omega arith))

still_fits : (ws us vs : List ℕ) → length us ≡ length ws → FitsIn ws vs → FitsIn (wider ws us) vs
still_fits [] us [] h f = tt
still_fits [] us (v ∷ vs) h f = absurd f
still_fits (w ∷ ws) us [] h f = absurd f
still_fits (w ∷ ws) [] (v ∷ vs) h f = absurd (omega arith)
still_fits (w ∷ ws) (u ∷ us) (v ∷ vs) h f = (omega (arith, f.0), still_fits ws us vs (omega arith) f.1)

now_fits : (ws vs : List ℕ) → length vs ≡ length ws → FitsIn (wider ws vs) vs
now_fits [] [] h = tt
now_fits [] (v ∷ vs) h = absurd (omega arith)
now_fits (w ∷ ws) [] h = absurd (omega arith)
now_fits (w ∷ ws) (v ∷ vs) h = (omega arith, now_fits ws vs (omega arith))

fits_on : (lines : List (List ℕ)) (ws vs : List ℕ) → ((k : ℕ) → k < length lines → length (get_or lines k []) ≡ length ws) → FitsIn ws vs → FitsIn (fold wider ws lines) vs
fits_on [] ws vs h f = f
fits_on (l ∷ ls) ws vs h f =
    let first : length l ≡ length ws = h 0 (omega arith) in
    fits_on ls (wider ws l) vs (λ k g. h (suc k) (omega arith) ∙ sym (length-wider ws l first)) (still_fits ws l vs first f)

all_fit : (lines : List (List ℕ)) (ws : List ℕ) (k : ℕ) → ((i : ℕ) → i < length lines → length (get_or lines i []) ≡ length ws) → k < length lines → FitsIn (fold wider ws lines) (get_or lines k [])
all_fit [] ws k h g = absurd (omega arith)
all_fit (l ∷ ls) ws zero h g =
    let first : length l ≡ length ws = h 0 (omega arith) in
    fits_on ls (wider ws l) l (λ i j. h (suc i) (omega arith) ∙ sym (length-wider ws l first)) (now_fits ws l first)
all_fit (l ∷ ls) ws (suc k) h g =
    let first : length l ≡ length ws = h 0 (omega arith) in
    all_fit ls (wider ws l) k (λ i j. h (suc i) (omega arith) ∙ sym (length-wider ws l first)) (omega arith)

length-folded : (lines : List (List ℕ)) (ws : List ℕ) → ((i : ℕ) → i < length lines → length (get_or lines i []) ≡ length ws) → length (fold wider ws lines) ≡ length ws
length-folded [] ws h = refl
length-folded (l ∷ ls) ws h =
    let first : length l ≡ length ws = h 0 (omega arith) in
    length-folded ls (wider ws l) (λ k g. h (suc k) (omega arith) ∙ sym (length-wider ws l first)) ∙ length-wider ws l first

-- pieces of what a function gives
same_pieces : {X Y : Type 0} (f : X → Y) (n a p : ℕ) (xs : List X) → map (λ k. take n (drop (k * n) (map f xs))) (range_with_len a p) ≡ map (map f) (map (λ k. take n (drop (k * n) xs)) (range_with_len a p))
same_pieces f n a zero xs = refl
same_pieces f n a (suc p) xs =
    ap (λ r. r ∷ map (λ k. take n (drop (k * n) (map f xs))) (range_with_len (a + 1) p)) (ap (take n) (drop-map f (a * n) xs) ∙ take-map f n (drop (a * n) xs))
    ∙ ap (λ r. map f (take n (drop (a * n) xs)) ∷ r) (same_pieces f n (a + 1) p xs)

pub pieces-map : {X Y : Type 0} (f : X → Y) (n p : ℕ) (xs : List X) → pieces p n (map f xs) ≡ map (map f) (pieces p n xs)
pieces-map f n p xs = same_pieces f n 0 p xs

piece_at : {X : Type 0} (p n k : ℕ) (xs : List X) → k < p → get_or (pieces p n xs) k [] ≡ take n (drop (k * n) xs)
piece_at p n k xs h = get_or-map-range_with_len (λ i. take n (drop (i * n) xs)) 0 p k k [] h (omega arith)

pieces_many : {X : Type 0} (p n : ℕ) (xs : List X) → length (pieces p n xs) ≡ p
pieces_many p n xs = length-map-range_with_len (λ i. take n (drop (i * n) xs)) 0 p

-- the widths of the columns are those of the contents
pub widths_same : (p n : ℕ) (blocks : List (List (List ℕ))) → fold wider (replicate n 0) (pieces p n (map width_of blocks)) ≡ box_widths n (pieces p n blocks)
widths_same p n blocks = ap (fold wider (replicate n 0)) (pieces-map width_of n p blocks)

map_map : {X Y Z : Type 0} (f : Y → Z) (g : X → Y) (xs : List X) → map f (map g xs) ≡ map (λ x. f (g x)) xs
map_map f g [] = refl
map_map f g (x ∷ xs) = ap (λ r. f (g x) ∷ r) (map_map f g xs)

pub heights_same : (p n : ℕ) (blocks : List (List (List ℕ))) → map greatest (pieces p n (map (λ rows. length rows) blocks)) ≡ map height_of (pieces p n blocks)
heights_same p n blocks = ap (map greatest) (pieces-map (λ rows. length rows) n p blocks) ∙ map_map greatest (map (λ rows. length rows)) (pieces p n blocks)

line_widths_many : (p n : ℕ) (vs : List ℕ) → p * n ≡ length vs → (k : ℕ) → k < length (pieces p n vs) → length (get_or (pieces p n vs) k []) ≡ length {A = ℕ} (replicate n 0)
line_widths_many p n vs e k h =
    let less : k < p = omega (arith, pieces_many p n vs) in
    ap length (piece_at p n k vs less) ∙ line_many p n k vs e less ∙ sym (length-replicate n 0)

pub box_widths_many : (p n : ℕ) (blocks : List (List (List ℕ))) → p * n ≡ length blocks → length (box_widths n (pieces p n blocks)) ≡ n
box_widths_many p n blocks e =
    ap length (sym (widths_same p n blocks)) ∙ length-folded (pieces p n (map width_of blocks)) (replicate n 0) (line_widths_many p n (map width_of blocks) (e ∙ sym (length-map blocks width_of))) ∙ length-replicate n 0

pub heights_many : (p n : ℕ) (blocks : List (List (List ℕ))) → length (map height_of (pieces p n blocks)) ≡ p
heights_many p n blocks = length-map (pieces p n blocks) height_of ∙ pieces_many p n blocks

pub height_at : (p n k : ℕ) (blocks : List (List (List ℕ))) → k < p → get_or (map height_of (pieces p n blocks)) k 0 ≡ height_of (take n (drop (k * n) blocks))
height_at p n k blocks h = ap (λ hs. get_or hs k 0) (map_map height_of (λ i. take n (drop (i * n) blocks)) (range_with_len 0 p)) ∙ get_or-map-range_with_len (λ i. height_of (take n (drop (i * n) blocks))) 0 p k k 0 h (omega arith)

line_fits : (p n k : ℕ) (blocks : List (List (List ℕ))) → p * n ≡ length blocks → k < p → FitsIn (box_widths n (pieces p n blocks)) (map width_of (take n (drop (k * n) blocks)))
line_fits p n k blocks e h =
    let less : k < length (pieces p n (map width_of blocks)) = omega (arith, pieces_many p n (map width_of blocks)) in
    let fit = all_fit (pieces p n (map width_of blocks)) (replicate n 0) k (line_widths_many p n (map width_of blocks) (e ∙ sym (length-map blocks width_of))) less in
    let line : get_or (pieces p n (map width_of blocks)) k [] ≡ map width_of (take n (drop (k * n) blocks)) =
    piece_at p n k (map width_of blocks) h ∙ ap (take n) (drop-map width_of (k * n) blocks) ∙ take-map width_of n (drop (k * n) blocks) in
    let P : List ℕ → Type 0 = λ ws. FitsIn ws (get_or (pieces p n (map width_of blocks)) k []) in
    let Q : List ℕ → Type 0 = λ vs. FitsIn (box_widths n (pieces p n blocks)) vs in
    subst Q line (subst P (widths_same p n blocks) fit)

-- a row is as long as its columns say
row_within : (rows : List (List ℕ)) (r : ℕ) → length (get_or rows r []) ≤ width_of rows
row_within [] r = omega arith
row_within (x ∷ xs) zero = omega arith
row_within (x ∷ xs) (suc r) = omega (arith, row_within xs r)

pub length-padded : (w : ℕ) (row : List ℕ) → length row ≤ w → length (padded w row) ≡ w
length-padded w row h = omega (arith, length-append row (replicate (w - length row) 32), length-replicate {A = ℕ} (w - length row) 32)

cells_many : (ws : List ℕ) (line : List (List (List ℕ))) (r : ℕ) → FitsIn ws (map width_of line) → length (flat_map (box_cell r) (zip ws line)) ≡ row_bytes ws
cells_many [] [] r f = refl
cells_many [] (x ∷ xs) r f = absurd f
cells_many (w ∷ ws) [] r f = absurd f
cells_many (w ∷ ws) (x ∷ xs) r f =
    let fit : length (get_or x r []) ≤ w = omega (arith, row_within x r, f.0) in
    omega (arith, sum_by-cons (λ v. v + 1) w ws, length-append (box_cell r (w, x)) (flat_map (box_cell r) (zip ws xs)), length-append (padded w (get_or x r [])) (124 ∷ []), length-padded w (get_or x r []) fit, cells_many ws xs r f.1)

pub box_row_many : (ws : List ℕ) (line : List (List (List ℕ))) (r : ℕ) → FitsIn ws (map width_of line) → length (box_row ws line r) ≡ row_bytes ws + 1
box_row_many ws line r f = omega (arith, cells_many ws line r f)

parts_many : (ws : List ℕ) → length (flat_map rule_part ws) ≡ row_bytes ws
parts_many [] = refl
parts_many (w ∷ ws) =
    omega (arith, sum_by-cons (λ v. v + 1) w ws, length-append (rule_part w) (flat_map rule_part ws), length-append {A = ℕ} (replicate w 45) (43 ∷ []), length-replicate {A = ℕ} w 45, parts_many ws)

pub rule_many : (ws : List ℕ) → length (rule ws) ≡ row_bytes ws + 1
rule_many ws = omega (arith, parts_many ws)

pub grid_line_fits : (p n k r : ℕ) (blocks : List (List (List ℕ))) (ws : List ℕ) → ws ≡ box_widths n (pieces p n blocks) → p * n ≡ length blocks → k < p → length (box_row ws (take n (drop (k * n) blocks)) r) ≡ row_bytes ws + 1
grid_line_fits p n k r blocks ws ew e h =
    let P : List ℕ → Type 0 = λ vs. FitsIn vs (map width_of (take n (drop (k * n) blocks))) in
    box_row_many ws (take n (drop (k * n) blocks)) r (subst P (sym ew) (line_fits p n k blocks e h))

-- rows that a function gives for a range
some_wide : (f : ℕ → List ℕ) (a h w : ℕ) → ((r : ℕ) → length (f r) ≡ w) → width_of (map f (range_with_len a h)) ≤ w
some_wide f a zero w g = omega arith
some_wide f a (suc h) w g = omega (arith, g a, some_wide f (a + 1) h w g)

copies_wide : (m : ℕ) (row : List ℕ) → width_of (replicate m row) ≤ length row
copies_wide zero row = omega arith
copies_wide (suc m) row = omega (arith, copies_wide m row)

line_wide : (frame ws : List ℕ) (k : ℕ) (line : List (List (List ℕ))) → ((r : ℕ) → length (box_row ws line r) ≡ row_bytes ws + 1) → width_of (box_line frame ws k line) ≡ row_bytes ws + 1
line_wide frame ws k line g =
    let body : List (List ℕ) = map (box_row ws line) (range_with_len 0 (height_of line)) in
    let a = width-append (above frame ws k) (body ++ rule ws ∷ []) in
    let b = width-append body (rule ws ∷ []) in
    let c = width-append (replicate (gap frame k) []) (replicate (rules_above frame k) (rule ws)) in
    let d = some_wide (box_row ws line) 0 (height_of line) (row_bytes ws + 1) g in
    let last : width_of (rule ws ∷ []) ≡ row_bytes ws + 1 = omega (arith, rule_many ws) in
    omega (arith, width-empties (gap frame k), copies_wide (rules_above frame k) (rule ws), rule_many ws)

lines_wide : (f : ℕ → List (List ℕ)) (a n w : ℕ) → ((k : ℕ) → k < a + suc n → width_of (f k) ≡ w) → width_of (flat_map f (range_with_len a (suc n))) ≡ w
lines_wide f a zero w g = omega (arith, width-append (f a) [], g a (omega arith))
lines_wide f a (suc n) w g =
    omega (arith, width-append (f a) (flat_map f (range_with_len (a + 1) (suc n))), g a (omega arith), lines_wide f (a + 1) n w (λ k h. g k (omega arith)))

lines_wide_some : (f : ℕ → List (List ℕ)) (n w : ℕ) → 0 < n → ((k : ℕ) → k < n → width_of (f k) ≡ w) → width_of (flat_map f (range_with_len 0 n)) ≡ w
lines_wide_some f zero w some g = absurd (omega arith)
lines_wide_some f (suc n) w some g = lines_wide f 0 n w (λ k h. g k (omega arith))

pub grid_wide : (frame ws : List ℕ) (n : ℕ) (blocks : List (List (List ℕ))) → ws ≡ box_widths n (pieces (product frame) n blocks) → product frame * n ≡ length blocks → 0 < product frame →
    width_of (grid frame ws n blocks) ≡ row_bytes ws + 1
grid_wide frame ws n blocks ew e some =
    lines_wide_some (λ k. box_line frame ws k (take n (drop (k * n) blocks))) (product frame) (row_bytes ws + 1) some
    (λ k h. line_wide frame ws k (take n (drop (k * n) blocks)) (λ r. grid_line_fits (product frame) n k r blocks ws ew e h))

-- how many rows there are
length-map-range : (f : ℕ → List ℕ) (h : ℕ) → length (map f (range_with_len 0 h)) ≡ h
length-map-range f h = length-map-range_with_len f 0 h

pub above_many : (frame ws : List ℕ) (k : ℕ) → length (above frame ws k) ≡ gap frame k + rules_above frame k
above_many frame ws k =
    length-append (replicate (gap frame k) []) (replicate (rules_above frame k) (rule ws)) ∙ ap (λ m. m + length {A = List ℕ} (replicate (rules_above frame k) (rule ws))) (length-replicate (gap frame k) [])
    ∙ ap (λ m. gap frame k + m) (length-replicate (rules_above frame k) (rule ws))

pub line_rows_many : (frame ws : List ℕ) (k : ℕ) (line : List (List (List ℕ))) → length (box_line frame ws k line) ≡ gap frame k + (rules_above frame k + (height_of line + 1))
line_rows_many frame ws k line =
    let body : List (List ℕ) = map (box_row ws line) (range_with_len 0 (height_of line)) in
    omega (arith, length-append (above frame ws k) (body ++ rule ws ∷ []), length-append body (rule ws ∷ []), above_many frame ws k, length-map-range (box_row ws line) (height_of line))

sum_same : (f g : ℕ → ℕ) (a n : ℕ) → ((k : ℕ) → k < a + n → f k ≡ g k) → sum_by f (range_with_len a n) ≡ sum_by g (range_with_len a n)
sum_same f g a zero h = refl
sum_same f g a (suc n) h = omega (arith, sum_by-cons f a (range_with_len (a + 1) n), sum_by-cons g a (range_with_len (a + 1) n), h a (omega arith), sum_same f g (a + 1) n (λ k l. h k (omega arith)))

rows_sum : (f : ℕ → List (List ℕ)) (a n : ℕ) → length (flat_map f (range_with_len a n)) ≡ sum_by (λ k. length (f k)) (range_with_len a n)
rows_sum f a zero = refl
rows_sum f a (suc n) = omega (arith, sum_by-cons (λ k. length (f k)) a (range_with_len (a + 1) n), length-append (f a) (flat_map f (range_with_len (a + 1) n)), rows_sum f (a + 1) n)

pub grid_high : (frame ws hs : List ℕ) (n : ℕ) (blocks : List (List (List ℕ))) → hs ≡ map height_of (pieces (product frame) n blocks) → length (grid frame ws n blocks) ≡ grid_height frame hs (length hs)
grid_high frame ws hs n blocks eh =
    let count : length hs ≡ product frame = ap length eh ∙ heights_many (product frame) n blocks in
    rows_sum (λ k. box_line frame ws k (take n (drop (k * n) blocks))) 0 (product frame)
    ∙ sum_same (λ k. length (box_line frame ws k (take n (drop (k * n) blocks)))) (λ k. gap frame k + (rules_above frame k + (get_or hs k 0 + 1))) 0 (product frame)
    (λ k h. line_rows_many frame ws k (take n (drop (k * n) blocks)) ∙ ap (λ m. gap frame k + (rules_above frame k + (m + 1))) (sym (ap (λ l. get_or l k 0) eh ∙ height_at (product frame) n k blocks (omega arith))))
    ∙ ap (grid_height frame hs) (sym count)

-- how many bytes they take
joined-append : (xs ys : List (List ℕ)) → length (joined (xs ++ ys)) ≡ length (joined xs) + length (joined ys)
joined-append [] ys = omega arith
joined-append (x ∷ xs) ys = omega (arith, length-append (x ++ 10 ∷ []) (joined (xs ++ ys)), length-append (x ++ 10 ∷ []) (joined xs), joined-append xs ys)

joined-empties : (n : ℕ) → length (joined (replicate n [])) ≡ n
joined-empties zero = refl
joined-empties (suc n) = omega (arith, joined-empties n)

joined-copies : (n : ℕ) (row : List ℕ) (w : ℕ) → length row + 1 ≡ w → length (joined (replicate n row)) ≡ n * w
joined-copies zero row w e = omega arith
joined-copies (suc n) row w e =
    let more : suc n * w ≡ n * w + 1 * w = ap (λ m. m * w) (let one : suc n ≡ n + 1 = omega arith in one) ∙ add-mul n 1 w in
    omega (arith, length-append (row ++ 10 ∷ []) (joined (replicate n row)), length-append row (10 ∷ []), joined-copies n row w e)

joined-range : (f : ℕ → List ℕ) (a n w : ℕ) → ((r : ℕ) → length (f r) + 1 ≡ w) → length (joined (map f (range_with_len a n))) ≡ n * w
joined-range f a zero w g = omega arith
joined-range f a (suc n) w g =
    let more : suc n * w ≡ n * w + 1 * w = ap (λ m. m * w) (let one : suc n ≡ n + 1 = omega arith in one) ∙ add-mul n 1 w in
    omega (arith, length-append (f a ++ 10 ∷ []) (joined (map f (range_with_len (a + 1) n))), length-append (f a) (10 ∷ []), g a, joined-range f (a + 1) n w g)

line_bytes : (frame ws : List ℕ) (k w : ℕ) (line : List (List (List ℕ))) → row_bytes ws + 2 ≡ w → ((r : ℕ) → length (box_row ws line r) ≡ row_bytes ws + 1) →
    length (joined (box_line frame ws k line)) ≡ gap frame k + (rules_above frame k + (height_of line + 1)) * w
line_bytes frame ws k w line ew g =
    let body : List (List ℕ) = map (box_row ws line) (range_with_len 0 (height_of line)) in
    let a = joined-append (above frame ws k) (body ++ rule ws ∷ []) in
    let b = joined-append body (rule ws ∷ []) in
    let c = joined-append (replicate (gap frame k) []) (replicate (rules_above frame k) (rule ws)) in
    let d = joined-range (box_row ws line) 0 (height_of line) w (λ r. omega (arith, g r)) in
    let e = joined-copies (rules_above frame k) (rule ws) w (omega (arith, rule_many ws)) in
    let f = joined-copies 1 (rule ws) w (omega (arith, rule_many ws)) in
    let sum : (rules_above frame k + (height_of line + 1)) * w ≡ rules_above frame k * w + (height_of line * w + 1 * w) = add-mul (rules_above frame k) (height_of line + 1) w ∙ ap (λ m. rules_above frame k * w + m) (add-mul (height_of line) 1 w) in
    omega (arith, joined-empties (gap frame k))

bytes_sum : (f : ℕ → List (List ℕ)) (a n : ℕ) → length (joined (flat_map f (range_with_len a n))) ≡ sum_by (λ k. length (joined (f k))) (range_with_len a n)
bytes_sum f a zero = refl
bytes_sum f a (suc n) = omega (arith, sum_by-cons (λ k. length (joined (f k))) a (range_with_len (a + 1) n), joined-append (f a) (flat_map f (range_with_len (a + 1) n)), bytes_sum f (a + 1) n)

pub grid_takes : (frame ws hs : List ℕ) (n w : ℕ) (blocks : List (List (List ℕ))) → ws ≡ box_widths n (pieces (product frame) n blocks) → product frame * n ≡ length blocks → hs ≡ map height_of (pieces (product frame) n blocks) → row_bytes ws + 2 ≡ w →
    length (joined (grid frame ws n blocks)) ≡ grid_bytes frame hs w (length hs)
grid_takes frame ws hs n w blocks ew e eh er =
    let count : length hs ≡ product frame = ap length eh ∙ heights_many (product frame) n blocks in
    bytes_sum (λ k. box_line frame ws k (take n (drop (k * n) blocks))) 0 (product frame)
    ∙ sum_same (λ k. length (joined (box_line frame ws k (take n (drop (k * n) blocks))))) (λ k. gap frame k + (rules_above frame k + (get_or hs k 0 + 1)) * w) 0 (product frame)
    (λ k h. let less : k < product frame = omega arith in
    line_bytes frame ws k w (take n (drop (k * n) blocks)) er (λ r. grid_line_fits (product frame) n k r blocks ws ew e less)
    ∙ ap (λ m. gap frame k + (rules_above frame k + (m + 1)) * w) (sym (ap (λ l. get_or l k 0) eh ∙ height_at (product frame) n k blocks less)))
    ∙ ap (grid_bytes frame hs w) (sym count)
