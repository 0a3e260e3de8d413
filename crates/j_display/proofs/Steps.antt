-- The steps of painting boxes.
use Rattle.std.proofs.Common.{◌≡◌, ℕ, ◌+◌, ◌-◌, ◌*◌, ◌<◌, ◌≤◌, List, [], ◌∷◌, ◌++◌, length, map, take, drop, get_or, refl, sym, ap, ◌∙◌, subst, arith, drop-cons}
use Prim.Native.Nat.{zero, suc}
use Rattle.std.specs.List.{flat_map, range_with_len}
use Rattle.std.proofs.lemmas.List.{length-append, length-map, take-append-drop, take-map, drop-map, take_all}
use Rattle.std.proofs.lemmas.List.Concat.{flat_map-append}
use Rattle.std.proofs.lemmas.Nat.{row_fits}
use Rattle.std.proofs.Math.Nat.{add-mul}
use Rattle.j_definitions.specs.Array.{Array, product}
use Rattle.j_display.specs.Rows.{padded, rule, above, box_row, box_line, height_of, noun_rows}
use Rattle.j_display.specs.Sizes.{row_bytes}
use Rattle.j_display.specs.Blocks.{extended}
use Rattle.j_display.specs.Measured.{StandAt, noun_sizes, blanks_below, IsGridOf, grid_of}
use Rattle.j_display.specs.declared.paint.Grid.{Grid}
use Rattle.j_display.proofs.Fitting.{line_many}
use Rattle.j_display.proofs.Grids.{heights_many, height_at, grid_line_fits, line_rows_many, above_many}
use Rattle.j_display.proofs.Paints.{stand_first, stand_rest, stand_part, first_lines, line_done, lines_more, rows_more}

pub stand_one : {X : Type 0} (f : X → List ℕ) (xs : List X) (sizes : List ℕ) (at next j : ℕ) (d : X) → j < length xs → next ≡ at + length (flat_map f (take j xs)) → StandAt sizes at (flat_map f xs) → StandAt sizes next (f (get_or xs j d))
stand_one f xs sizes at next j d h en s =
    let split : flat_map f xs ≡ flat_map f (take j xs) ++ (f (get_or xs j d) ++ flat_map f (drop (suc j) xs)) =
    ap (flat_map f) (sym (take-append-drop j xs)) ∙ flat_map-append f (take j xs) (drop j xs) ∙ ap (λ ys. flat_map f (take j xs) ++ flat_map f ys) (drop-cons xs j d h) in
    let P : List ℕ → Type 0 = λ ys. StandAt sizes at ys in
    stand_first sizes next (f (get_or xs j d)) (flat_map f (drop (suc j) xs)) (stand_rest sizes at next (flat_map f (take j xs)) (f (get_or xs j d) ++ flat_map f (drop (suc j) xs)) en (subst P split s))

-- the rows of a content, and that they are no more than the line is high
pub rows_at : (cs : List Array) (j : ℕ) (d : Array) → j < length cs → get_or (map noun_rows cs) j [] ≡ noun_rows (get_or cs j d)
rows_at [] j d h = absurd (omega arith)
rows_at (c ∷ cs) zero d h = refl
rows_at (c ∷ cs) (suc j) d h = rows_at cs j d (omega arith)

pub rows_within : (cs : List Array) (j : ℕ) (d : Array) → j < length cs → length (noun_rows (get_or cs j d)) ≤ height_of (map noun_rows cs)
rows_within [] j d h = absurd (omega arith)
rows_within (c ∷ cs) zero d h = omega arith
rows_within (c ∷ cs) (suc j) d h = omega (arith, rows_within cs j d (omega arith))

-- the contents of a line
pub line_blocks : (cs : List Array) (i n : ℕ) → map noun_rows (take n (drop i cs)) ≡ take n (drop i (map noun_rows cs))
line_blocks cs i n = sym (ap (take n) (drop-map noun_rows i cs) ∙ take-map noun_rows n (drop i cs))

take_more_of : {X : Type 0} (xs : List X) (i n : ℕ) → take (i + n) xs ≡ take i xs ++ take n (drop i xs)
take_more_of xs zero n = ap (λ m. take m xs) (let e : 0 + n ≡ n = omega arith in e)
take_more_of [] (suc i) zero = ap (λ m. take m []) (let e : suc i + 0 ≡ suc i = omega arith in e)
take_more_of [] (suc i) (suc n) = ap (λ m. take m []) (let e : suc i + suc n ≡ suc (i + suc n) = omega arith in e)
take_more_of (x ∷ xs) (suc i) n = ap (λ m. take m (x ∷ xs)) (let e : suc i + n ≡ suc (i + n) = omega arith in e) ∙ ap (λ r. x ∷ r) (take_more_of xs i n)

-- the sizes of one more line
pub next_line : (cs : List Array) (k n at next now : ℕ) → next ≡ at + length (flat_map noun_sizes (take (k * n) cs)) → now ≡ next + length (flat_map noun_sizes (take n (drop (k * n) cs))) → now ≡ at + length (flat_map noun_sizes (take ((k + 1) * n) cs))
next_line cs k n at next now en e =
    let i : (k + 1) * n ≡ k * n + n = omega (arith, add-mul k 1 n) in
    let split : flat_map noun_sizes (take ((k + 1) * n) cs) ≡ flat_map noun_sizes (take (k * n) cs) ++ flat_map noun_sizes (take n (drop (k * n) cs)) =
    ap (λ m. flat_map noun_sizes (take m cs)) i ∙ ap (flat_map noun_sizes) (take_more_of cs (k * n) n) ∙ flat_map-append noun_sizes (take (k * n) cs) (take n (drop (k * n) cs)) in
    omega (arith, ap length split, length-append (flat_map noun_sizes (take (k * n) cs)) (flat_map noun_sizes (take n (drop (k * n) cs))))

-- how many lines a grid has, and how high line k is
pub lines_of : (g : Grid) (cs : List Array) → IsGridOf g (map noun_rows cs) → length g.heights.now ≡ product g.frame.now
lines_of g cs h = ap length h.heights ∙ heights_many (product g.frame.now) (length g.widths.now) (map noun_rows cs)

pub line_high : (g : Grid) (cs : List Array) (k : ℕ) → IsGridOf g (map noun_rows cs) → k < length g.heights.now → get_or g.heights.now k 0 ≡ height_of (map noun_rows (take (length g.widths.now) (drop (k * length g.widths.now) cs)))
line_high g cs k h less =
    ap (λ l. get_or l k 0) h.heights ∙ height_at (product g.frame.now) (length g.widths.now) k (map noun_rows cs) (omega (arith, lines_of g cs h)) ∙ ap height_of (sym (line_blocks cs (k * length g.widths.now) (length g.widths.now)))

pub line_ends : (g : Grid) (cs : List Array) (k : ℕ) → IsGridOf g (map noun_rows cs) → k < length g.heights.now → k * length g.widths.now + length g.widths.now ≤ length cs
line_ends g cs k h less =
    let n : ℕ = length g.widths.now in
    let whole : product g.frame.now * n ≡ length cs = h.whole ∙ length-map cs noun_rows in
    let count = lines_of g cs h in
    omega (arith, row_fits k n (product g.frame.now) n (omega arith) (omega arith))

pub line_long : (g : Grid) (cs : List Array) (k r : ℕ) → IsGridOf g (map noun_rows cs) → k < length g.heights.now → length (box_row g.widths.now (map noun_rows (take (length g.widths.now) (drop (k * length g.widths.now) cs))) r) ≡ row_bytes g.widths.now + 1
line_long g cs k r h less =
    let n : ℕ = length g.widths.now in
    ap (λ line. length (box_row g.widths.now line r)) (line_blocks cs (k * n) n)
    ∙ grid_line_fits (product g.frame.now) n k r (map noun_rows cs) g.widths.now h.widths h.whole (omega (arith, lines_of g cs h))

-- one more line of a grid
pub grid_canvas : (g : Grid) (cs : List Array) (base c0 c1 c2 c3 : List (List ℕ)) (k row at at1 height size width : ℕ) → IsGridOf g (map noun_rows cs) → k < length g.heights.now →
    c0 ≡ extended base row (map (padded width) (first_lines g.frame.now g.widths.now (map noun_rows cs) k)) → at ≡ row + length (first_lines g.frame.now g.widths.now (map noun_rows cs) k) →
    c1 ≡ extended c0 at (map (padded width) (above g.frame.now g.widths.now k)) → at1 ≡ at + length (above g.frame.now g.widths.now k) →
    c2 ≡ extended c1 at1 (map (box_row g.widths.now (map noun_rows (take (length g.widths.now) (drop (k * length g.widths.now) cs)))) (range_with_len 0 height)) →
    c3 ≡ extended c2 at1 (blanks_below height (width - size) ++ padded width (rule g.widths.now) ∷ []) → size ≡ row_bytes g.widths.now + 1 → height ≡ get_or g.heights.now k 0 →
    c3 ≡ extended base row (map (padded width) (first_lines g.frame.now g.widths.now (map noun_rows cs) (k + 1)))
grid_canvas g cs base c0 c1 c2 c3 k row at at1 height size width h less e0 ea e1 ea1 e2 e3 es eh =
    let n : ℕ = length g.widths.now in
    let line : List (List (List ℕ)) = map noun_rows (take n (drop (k * n) cs)) in
    let done = line_done g.frame.now g.widths.now k line c0 c1 c2 c3 at at1 height size width e1 ea1 e2 e3 (λ r. line_long g cs k r h less ∙ sym es) (eh ∙ line_high g cs k h less) in
    lines_more (λ i. box_line g.frame.now g.widths.now i (take n (drop (i * n) (map noun_rows cs)))) base c0 c3 row at width k e0 ea
    (done ∙ ap (λ l. extended c0 at (map (padded width) (box_line g.frame.now g.widths.now k l))) (line_blocks cs (k * n) n))

pub grid_row : (g : Grid) (cs : List Array) (k row at at1 at2 height : ℕ) → IsGridOf g (map noun_rows cs) → k < length g.heights.now → at ≡ row + length (first_lines g.frame.now g.widths.now (map noun_rows cs) k) →
    at1 ≡ at + length (above g.frame.now g.widths.now k) → at2 ≡ at1 + (height + 1) → height ≡ get_or g.heights.now k 0 → at2 ≡ row + length (first_lines g.frame.now g.widths.now (map noun_rows cs) (k + 1))
grid_row g cs k row at at1 at2 height h less ea ea1 ea2 eh =
    let n : ℕ = length g.widths.now in
    let blocks : List (List (List ℕ)) = take n (drop (k * n) (map noun_rows cs)) in
    let high : height ≡ height_of blocks = eh ∙ line_high g cs k h less ∙ ap height_of (line_blocks cs (k * n) n) in
    omega (arith, rows_more (λ i. box_line g.frame.now g.widths.now i (take n (drop (i * n) (map noun_rows cs)))) row at k ea, line_rows_many g.frame.now g.widths.now k blocks, above_many g.frame.now g.widths.now k)

pub lines_all : (g : Grid) (cs : List Array) (k : ℕ) → IsGridOf g (map noun_rows cs) → k ≡ length g.heights.now → first_lines g.frame.now g.widths.now (map noun_rows cs) k ≡ grid_of g (map noun_rows cs)
lines_all g cs k h e = ap (first_lines g.frame.now g.widths.now (map noun_rows cs)) (e ∙ lines_of g cs h)

-- what painting a line asks
pub line_asked : (g : Grid) (cs : List Array) (k m at next : ℕ) (sizes : List ℕ) → IsGridOf g (map noun_rows cs) → k < length g.heights.now → m ≡ length g.widths.now → next ≡ at + length (flat_map noun_sizes (take (k * length g.widths.now) cs)) → StandAt sizes at (flat_map noun_sizes cs) →
    (length (take m (drop (k * length g.widths.now) cs)) ≡ length g.widths.now) × (get_or g.heights.now k 0 ≡ height_of (map noun_rows (take m (drop (k * length g.widths.now) cs)))) × StandAt sizes next (flat_map noun_sizes (take m (drop (k * length g.widths.now) cs)))
line_asked g cs k m at next sizes h less em en st =
    let n : ℕ = length g.widths.now in
    let whole : product g.frame.now * n ≡ length cs = h.whole ∙ length-map cs noun_rows in
    let few : k < product g.frame.now = omega (arith, lines_of g cs h) in (
      ap (λ i. length (take i (drop (k * n) cs))) em ∙ line_many (product g.frame.now) n k cs whole few,
      line_high g cs k h less ∙ ap (λ i. height_of (map noun_rows (take i (drop (k * n) cs)))) (sym em),
      stand_part noun_sizes cs sizes at next (k * n) m en st,
    )

pub lines_first : (cs : List Array) (n at : ℕ) → at ≡ at + length (flat_map noun_sizes (take (0 * n) cs))
lines_first cs n at = let e : at ≡ at + 0 = omega arith in e ∙ ap (λ m. at + length (flat_map noun_sizes (take m cs))) (let z : 0 ≡ 0 * n = omega arith in z)

pub lines_last : (g : Grid) (cs : List Array) (k : ℕ) → IsGridOf g (map noun_rows cs) → k ≡ length g.heights.now → take (k * length g.widths.now) cs ≡ cs
lines_last g cs k h e =
    let whole : product g.frame.now * length g.widths.now ≡ length cs = h.whole ∙ length-map cs noun_rows in
    let all : k * length g.widths.now ≡ length cs = ap (λ m. m * length g.widths.now) (e ∙ lines_of g cs h) ∙ whole in
    take_all (k * length g.widths.now) cs (omega arith)
