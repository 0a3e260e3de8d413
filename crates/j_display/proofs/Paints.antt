-- Boxes as they are painted, side by side and line under line.
use Rattle.std.proofs.Common.{◌≡◌, ℕ, ◌+◌, ◌-◌, ◌*◌, ◌<◌, ◌≤◌, List, [], ◌∷◌, ◌++◌, length, map, take, drop, get_or, replicate, refl, sym, ap, ◌∙◌, subst, arith, append_assoc, add-one}
use Prim.Native.Nat.{zero, suc}
use Rattle.std.specs.List.{flat_map, zip, range_with_len}
use Rattle.std.proofs.lemmas.List.{append-nil, length-append, length-map, map-append, take_more, take_all, take-append-drop, drop-drop, drop_at}
use Rattle.std.proofs.lemmas.List.Concat.{flat_map-append}
use Rattle.std.proofs.lemmas.Slice.Zip.{get_or-zip, length-zip}
use Rattle.j_display.specs.Rows.{padded, rule, above, box_cell, box_row, box_line, height_of}
use Rattle.j_display.specs.Blocks.{extended}
use Rattle.j_display.specs.Measured.{StandAt, blanks_below, bars}
use Rattle.j_display.proofs.Blocks.{alongside, extended-alongside, extended-under}
use Rattle.j_display.proofs.Maxima.{range-push}

map_same : {X Y : Type 0} (f g : X → Y) → ((x : X) → f x ≡ g x) → (xs : List X) → map f xs ≡ map g xs
map_same f g h [] = refl
map_same f g h (x ∷ xs) = ap (λ y. y ∷ map f xs) (h x) ∙ ap (λ r. g x ∷ r) (map_same f g h xs)

map_map : {X Y Z : Type 0} (f : Y → Z) (g : X → Y) (xs : List X) → map f (map g xs) ≡ map (λ x. f (g x)) xs
map_map f g [] = refl
map_map f g (x ∷ xs) = ap (λ r. f (g x) ∷ r) (map_map f g xs)

always : {X : Type 0} (x : X) (a n : ℕ) → replicate n x ≡ map (λ r. x) (range_with_len a n)
always x a zero = refl
always x a (suc n) = ap (λ r. x ∷ r) (always x (a + 1) n)

shift : {X : Type 0} (f : ℕ → X) (a n : ℕ) → map f (range_with_len (a + 1) n) ≡ map (λ k. f (suc k)) (range_with_len a n)
shift f a zero = refl
shift f a (suc n) = ap (λ x. x ∷ map f (range_with_len (a + 1 + 1) n)) (ap f (add-one a)) ∙ ap (λ r. f (suc a) ∷ r) (shift f (a + 1) n)

padded-nil : (w : ℕ) → padded w [] ≡ replicate w 32
padded-nil w = ap (λ n. replicate n 32) (let e : w - 0 ≡ w = omega arith in e)

pub padded-empties : (w n : ℕ) → map (padded w) (replicate n []) ≡ blanks_below n w
padded-empties w zero = refl
padded-empties w (suc n) = ap (λ r. r ∷ map (padded w) (replicate n [])) (padded-nil w) ∙ ap (λ r. replicate w 32 ∷ r) (padded-empties w n)

pub padded-copies : (w n : ℕ) (row : List ℕ) → map (padded w) (replicate n row) ≡ replicate n (padded w row)
padded-copies w zero row = refl
padded-copies w (suc n) row = ap (λ r. padded w row ∷ r) (padded-copies w n row)

-- a content with the blanks below it, row by row
cell_rows : (w h : ℕ) (rows : List (List ℕ)) → length rows ≤ h → map (padded w) rows ++ blanks_below (h - length rows) w ≡ map (λ r. padded w (get_or rows r [])) (range_with_len 0 h)
cell_rows w h [] e =
    ap (λ n. blanks_below n w) (let same : h - 0 ≡ h = omega arith in same) ∙ ap (λ row. replicate h row) (sym (padded-nil w)) ∙ always (padded w []) 0 h
cell_rows w zero (x ∷ xs) e = absurd (omega arith)
cell_rows w (suc h) (x ∷ xs) e =
    let less : suc h - suc (length xs) ≡ h - length xs = omega arith in
    ap (λ n. (padded w x ∷ map (padded w) xs) ++ blanks_below n w) less
    ∙ ap (λ r. padded w x ∷ r) (cell_rows w h xs (omega arith) ∙ sym (shift (λ r. padded w (get_or (x ∷ xs) r [])) 0 h) ∙ ap (λ a. map (λ r. padded w (get_or (x ∷ xs) r [])) (range_with_len a h)) (let e : 0 + 1 ≡ 1 = omega arith in e))

alongside-maps : (f g : ℕ → List ℕ) (rs : List ℕ) → alongside (map f rs) (map g rs) ≡ map (λ r. f r ++ g r) rs
alongside-maps f g [] = refl
alongside-maps f g (r ∷ rs) = ap (λ t. (f r ++ g r) ∷ t) (alongside-maps f g rs)

alongside-more : (f g : ℕ → List ℕ) (rs : List ℕ) (more : List (List ℕ)) → alongside (map f rs) (map g rs ++ more) ≡ map (λ r. f r ++ g r) rs ++ more
alongside-more f g [] more = refl
alongside-more f g (r ∷ rs) more = ap (λ t. (f r ++ g r) ∷ t) (alongside-more f g rs more)

-- one more box of a line
pub box_more : (f : ℕ → List ℕ) (base c0 c1 c2 rows : List (List ℕ)) (row h w end : ℕ) → c0 ≡ extended base row (map f (range_with_len 0 h)) → c1 ≡ extended c0 row (map (padded w) rows) →
    c2 ≡ extended (extended c1 end (blanks_below (row + h - end) w)) row (bars h) → end ≡ row + length rows → length rows ≤ h → c2 ≡ extended base row (map (λ r. f r ++ box_cell r (w, rows)) (range_with_len 0 h))
box_more f base c0 c1 c2 rows row h w end e0 e1 e2 ee fit =
    let rs : List ℕ = range_with_len 0 h in
    let cell : ℕ → List ℕ = λ r. padded w (get_or rows r []) in
    let below : row + h - end ≡ h - length rows = omega arith in
    let under : end ≡ row + length (map (padded w) rows) = omega (arith, length-map rows (padded w)) in
    let filled : extended c1 end (blanks_below (row + h - end) w) ≡ extended c0 row (map cell rs) =
    ap (λ c. extended c end (blanks_below (row + h - end) w)) e1 ∙ ap (λ n. extended (extended c0 row (map (padded w) rows)) end (blanks_below n w)) below
    ∙ extended-under c0 row end (map (padded w) rows) (blanks_below (h - length rows) w) under ∙ ap (extended c0 row) (cell_rows w h rows fit) in
    let barred : extended (extended c0 row (map cell rs)) row (bars h) ≡ extended c0 row (map (λ r. box_cell r (w, rows)) rs) =
    ap (extended (extended c0 row (map cell rs)) row) (always (124 ∷ []) 0 h) ∙ extended-alongside c0 row (map cell rs) (map (λ r. 124 ∷ []) rs) ∙ ap (extended c0 row) (alongside-maps cell (λ r. 124 ∷ []) rs) in
    e2 ∙ ap (λ c. extended c row (bars h)) filled ∙ barred ∙ ap (λ c. extended c row (map (λ r. box_cell r (w, rows)) rs)) e0
    ∙ extended-alongside base row (map f rs) (map (λ r. box_cell r (w, rows)) rs) ∙ ap (extended base row) (alongside-maps f (λ r. box_cell r (w, rows)) rs)

-- the first boxes of a line
abbrev pub first_boxes : List ℕ → List (List (List ℕ)) → ℕ → ℕ → List ℕ
first_boxes ws blocks j r = 124 ∷ flat_map (box_cell r) (take j (zip ws blocks))

boxes_push : (ws : List ℕ) (blocks : List (List (List ℕ))) (j r : ℕ) (rows : List (List ℕ)) (w : ℕ) → length ws ≡ length blocks → j < length ws → get_or ws j 0 ≡ w → get_or blocks j [] ≡ rows →
    first_boxes ws blocks j r ++ box_cell r (w, rows) ≡ first_boxes ws blocks (j + 1) r
boxes_push ws blocks j r rows w same h ew er =
    let there : j < length (zip ws blocks) = omega (arith, length-zip ws blocks) in
    let at : get_or (zip ws blocks) j (0, []) ≡ (w, rows) = get_or-zip ws blocks j (0, []) h (omega arith) ∙ ap (λ v. (v, get_or blocks j [])) ew ∙ ap (λ b. (w, b)) er in
    sym (ap (λ ps. 124 ∷ flat_map (box_cell r) ps) (take_more (zip ws blocks) j (0, []) there ∙ ap (λ p. take j (zip ws blocks) ++ p ∷ []) at)
    ∙ ap (λ t. 124 ∷ t) (flat_map-append (box_cell r) (take j (zip ws blocks)) ((w, rows) ∷ []) ∙ ap (λ t. flat_map (box_cell r) (take j (zip ws blocks)) ++ t) (append-nil (box_cell r (w, rows)))))

pub line_more : (ws : List ℕ) (blocks : List (List (List ℕ))) (base c0 c1 c2 rows : List (List ℕ)) (row h w end j : ℕ) → length ws ≡ length blocks → j < length ws → get_or ws j 0 ≡ w → get_or blocks j [] ≡ rows →
    c0 ≡ extended base row (map (first_boxes ws blocks j) (range_with_len 0 h)) → c1 ≡ extended c0 row (map (padded w) rows) →
    c2 ≡ extended (extended c1 end (blanks_below (row + h - end) w)) row (bars h) → end ≡ row + length rows → length rows ≤ h → c2 ≡ extended base row (map (first_boxes ws blocks (j + 1)) (range_with_len 0 h))
line_more ws blocks base c0 c1 c2 rows row h w end j same less ew er e0 e1 e2 ee fit =
    box_more (first_boxes ws blocks j) base c0 c1 c2 rows row h w end e0 e1 e2 ee fit
    ∙ ap (extended base row) (map_same (λ r. first_boxes ws blocks j r ++ box_cell r (w, rows)) (first_boxes ws blocks (j + 1)) (λ r. boxes_push ws blocks j r rows w same less ew er) (range_with_len 0 h))

pub line_begun : (ws : List ℕ) (blocks : List (List (List ℕ))) (base : List (List ℕ)) (row h : ℕ) → extended base row (replicate h (replicate 1 124)) ≡ extended base row (map (first_boxes ws blocks 0) (range_with_len 0 h))
line_begun ws blocks base row h = ap (extended base row) (always (124 ∷ []) 0 h)

pub line_ended : (ws : List ℕ) (blocks : List (List (List ℕ))) (base c : List (List ℕ)) (row h j : ℕ) → length ws ≡ length blocks → length ws ≤ j → c ≡ extended base row (map (first_boxes ws blocks j) (range_with_len 0 h)) →
    c ≡ extended base row (map (box_row ws blocks) (range_with_len 0 h))
line_ended ws blocks base c row h j same all e =
    let more : length (zip ws blocks) ≤ j = omega (arith, length-zip ws blocks) in
    e ∙ ap (extended base row) (map_same (first_boxes ws blocks j) (box_row ws blocks) (λ r. ap (λ ps. 124 ∷ flat_map (box_cell r) ps) (take_all j (zip ws blocks) more)) (range_with_len 0 h))

-- a line with what stands above and below it
pub line_done : (frame ws : List ℕ) (k : ℕ) (line : List (List (List ℕ))) (c0 c1 c2 c3 : List (List ℕ)) (row row1 h size width : ℕ) → c1 ≡ extended c0 row (map (padded width) (above frame ws k)) → row1 ≡ row + length (above frame ws k) →
    c2 ≡ extended c1 row1 (map (box_row ws line) (range_with_len 0 h)) → c3 ≡ extended c2 row1 (blanks_below h (width - size) ++ padded width (rule ws) ∷ []) → ((r : ℕ) → length (box_row ws line r) ≡ size) → h ≡ height_of line →
    c3 ≡ extended c0 row (map (padded width) (box_line frame ws k line))
line_done frame ws k line c0 c1 c2 c3 row row1 h size width e1 er e2 e3 many eh =
    let rs : List ℕ = range_with_len 0 h in
    let blanks : List ℕ = replicate (width - size) 32 in
    let last : List (List ℕ) = padded width (rule ws) ∷ [] in
    let body : List (List ℕ) = map (box_row ws line) rs in
    let under : row1 ≡ row + length (map (padded width) (above frame ws k)) = omega (arith, length-map (above frame ws k) (padded width)) in
    let ended : alongside body (blanks_below h (width - size) ++ last) ≡ map (padded width) body ++ last =
    ap (λ b. alongside body (b ++ last)) (always blanks 0 h) ∙ alongside-more (box_row ws line) (λ r. blanks) rs last
    ∙ ap (λ t. t ++ last) (map_same (λ r. box_row ws line r ++ blanks) (λ r. padded width (box_row ws line r)) (λ r. ap (λ n. box_row ws line r ++ replicate (width - n) 32) (sym (many r))) rs
    ∙ sym (map_map (padded width) (box_row ws line) rs)) in
    let whole : map (padded width) (above frame ws k) ++ (map (padded width) body ++ last) ≡ map (padded width) (above frame ws k ++ (body ++ rule ws ∷ [])) =
    sym (map-append (padded width) (above frame ws k) (body ++ rule ws ∷ []) ∙ ap (λ t. map (padded width) (above frame ws k) ++ t) (map-append (padded width) body (rule ws ∷ []))) in
    e3 ∙ ap (λ c. extended c row1 (blanks_below h (width - size) ++ last)) e2 ∙ extended-alongside c1 row1 body (blanks_below h (width - size) ++ last) ∙ ap (extended c1 row1) ended
    ∙ ap (λ c. extended c row1 (map (padded width) body ++ last)) e1 ∙ extended-under c0 row row1 (map (padded width) (above frame ws k)) (map (padded width) body ++ last) under
    ∙ ap (extended c0 row) whole ∙ ap (λ n. extended c0 row (map (padded width) (above frame ws k ++ (map (box_row ws line) (range_with_len 0 n) ++ rule ws ∷ [])))) eh

-- one more line
pub first_push : (f : ℕ → List (List ℕ)) (k : ℕ) → flat_map f (range_with_len 0 (k + 1)) ≡ flat_map f (range_with_len 0 k) ++ f k
first_push f k =
    ap (flat_map f) (range-push 0 k) ∙ flat_map-append f (range_with_len 0 k) ((0 + k) ∷ []) ∙ ap (λ t. flat_map f (range_with_len 0 k) ++ t) (append-nil (f (0 + k)))
    ∙ ap (λ i. flat_map f (range_with_len 0 k) ++ f i) (let e : 0 + k ≡ k = omega arith in e)

pub lines_more : (f : ℕ → List (List ℕ)) (base c0 c1 : List (List ℕ)) (row at width k : ℕ) → c0 ≡ extended base row (map (padded width) (flat_map f (range_with_len 0 k))) → at ≡ row + length (flat_map f (range_with_len 0 k)) →
    c1 ≡ extended c0 at (map (padded width) (f k)) → c1 ≡ extended base row (map (padded width) (flat_map f (range_with_len 0 (k + 1))))
lines_more f base c0 c1 row at width k e0 ea e1 =
    let under : at ≡ row + length (map (padded width) (flat_map f (range_with_len 0 k))) = omega (arith, length-map (flat_map f (range_with_len 0 k)) (padded width)) in
    e1 ∙ ap (λ c. extended c at (map (padded width) (f k))) e0 ∙ extended-under base row at (map (padded width) (flat_map f (range_with_len 0 k))) (map (padded width) (f k)) under
    ∙ ap (extended base row) (sym (ap (map (padded width)) (first_push f k) ∙ map-append (padded width) (flat_map f (range_with_len 0 k)) (f k)))

pub rows_more : (f : ℕ → List (List ℕ)) (row at k : ℕ) → at ≡ row + length (flat_map f (range_with_len 0 k)) → at + length (f k) ≡ row + length (flat_map f (range_with_len 0 (k + 1)))
rows_more f row at k e = omega (arith, ap length (first_push f k), length-append (flat_map f (range_with_len 0 k)) (f k))

-- sizes that stand behind others
pub stand_first : (sizes : List ℕ) (at : ℕ) (xs ys : List ℕ) → StandAt sizes at (xs ++ ys) → StandAt sizes at xs
stand_first sizes at xs ys h = (ys ++ h.0, h.1 ∙ append_assoc xs ys h.0)

pub stand_rest : (sizes : List ℕ) (at next : ℕ) (xs ys : List ℕ) → next ≡ at + length xs → StandAt sizes at (xs ++ ys) → StandAt sizes next ys
stand_rest sizes at next xs ys en h =
    (h.0, ap (λ n. drop n sizes) en ∙ sym (drop-drop (length xs) at sizes) ∙ ap (drop (length xs)) (h.1 ∙ append_assoc xs ys h.0) ∙ drop_at xs (ys ++ h.0) (length xs) refl)

pub stand_part : {X : Type 0} (f : X → List ℕ) (xs : List X) (sizes : List ℕ) (at next i n : ℕ) → next ≡ at + length (flat_map f (take i xs)) → StandAt sizes at (flat_map f xs) → StandAt sizes next (flat_map f (take n (drop i xs)))
stand_part f xs sizes at next i n en h =
    let split : flat_map f xs ≡ flat_map f (take i xs) ++ flat_map f (drop i xs) = ap (flat_map f) (sym (take-append-drop i xs)) ∙ flat_map-append f (take i xs) (drop i xs) in
    let again : flat_map f (drop i xs) ≡ flat_map f (take n (drop i xs)) ++ flat_map f (drop n (drop i xs)) =
    ap (flat_map f) (sym (take-append-drop n (drop i xs))) ∙ flat_map-append f (take n (drop i xs)) (drop n (drop i xs)) in
    let P : List ℕ → Type 0 = λ ys. StandAt sizes at ys in
    let Q : List ℕ → Type 0 = λ ys. StandAt sizes next ys in
    stand_first sizes next (flat_map f (take n (drop i xs))) (flat_map f (drop n (drop i xs))) (subst Q again (stand_rest sizes at next (flat_map f (take i xs)) (flat_map f (drop i xs)) en (subst P split h)))

-- the rows of the first lines of a grid
abbrev pub first_lines : List ℕ → List ℕ → List (List (List ℕ)) → ℕ → List (List ℕ)
first_lines frame ws blocks k = flat_map (λ i. box_line frame ws i (take (length ws) (drop (i * length ws) blocks))) (range_with_len 0 k)
