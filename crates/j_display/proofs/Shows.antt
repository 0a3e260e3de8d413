-- Boxes as they are shown.
use Rattle.std.proofs.Common.{◌≡◌, ℕ, ◌+◌, ◌-◌, ◌<◌, ◌≤◌, List, [], ◌∷◌, ◌++◌, length, map, take, drop, get_or, replicate, refl, sym, ap, ◌∙◌, arith, append_assoc}
use Prim.Native.Nat.{zero, suc}
use Rattle.std.proofs.lemmas.List.{append-nil, length-append, take_more, take-append-drop}
use Rattle.std.proofs.lemmas.List.Concat.{flat_map-append}
use Rattle.j_definitions.specs.Array.{Array}
use Rattle.j_display.specs.Rows.{padded, noun_rows, joined}
use Rattle.j_display.specs.Sizes.{row_bytes}
use Rattle.j_display.specs.Blocks.{extended}
use Rattle.j_display.specs.Measured.{StandAt, IsGridOf, grid_of, grid_bytes}
use Rattle.j_display.specs.declared.paint.Grid.{Grid}
use Rattle.j_display.proofs.Blocks.{extended-empty}
use Rattle.j_display.proofs.Grids.{grid_takes}

at_of : {V : Type 0} (xs : List V) (f : V → List ℕ) (i : ℕ) (d : V) → i < length xs → get_or (map f xs) i [] ≡ f (get_or xs i d)
at_of [] f i d h = absurd (omega arith)
at_of (x ∷ xs) f zero d h = refl
at_of (x ∷ xs) f (suc i) d h = at_of xs f i d (omega arith)

padded_zero : (rows : List (List ℕ)) → map (padded 0) rows ≡ rows
padded_zero [] = refl
padded_zero (x ∷ xs) =
    let none : 0 - length x ≡ 0 = omega arith in
    ap (λ n. (x ++ replicate n 32) ∷ map (padded 0) xs) none ∙ ap (λ r. r ∷ map (padded 0) xs) (append-nil x) ∙ ap (λ r. x ∷ r) (padded_zero xs)

pub painted_whole : (c0 c1 rows : List (List ℕ)) (height : ℕ) → c0 ≡ replicate height [] → c1 ≡ extended c0 0 (map (padded 0) rows) → height ≡ length rows → c1 ≡ rows
painted_whole c0 c1 rows height e0 e1 eh = e1 ∙ ap (λ c. extended c 0 (map (padded 0) rows)) e0 ∙ ap (extended (replicate height []) 0) (padded_zero rows) ∙ extended-empty rows height eh

pub box_bytes : (g : Grid) (cs : List Array) (rows : List (List ℕ)) (long row bytes : ℕ) → IsGridOf g (map noun_rows cs) → grid_of g (map noun_rows cs) ≡ rows → long ≡ row_bytes g.widths.now + 1 → row ≡ long + 1 →
    bytes ≡ grid_bytes g.frame.now g.heights.now row (length g.heights.now) → bytes ≡ length (joined rows)
box_bytes g cs rows long row bytes h er el ew eb =
    let two : row_bytes g.widths.now + 2 ≡ row = omega arith in
    eb ∙ sym (grid_takes g.frame.now g.widths.now g.heights.now (length g.widths.now) row (map noun_rows cs) h.widths h.whole h.heights two) ∙ ap (λ r. length (joined r)) er

pub stand_all : (sizes own : List ℕ) → sizes ≡ own → StandAt sizes 0 own
stand_all sizes own e = ([], e ∙ sym (append-nil own))

pub stand_own : (sizes own rest all : List ℕ) → sizes ≡ all → own ++ rest ≡ all → StandAt sizes 0 own
stand_own sizes own rest all e ea = (rest, e ∙ sym ea)

joined-append : (xs ys : List (List ℕ)) → joined (xs ++ ys) ≡ joined xs ++ joined ys
joined-append xs ys = flat_map-append (λ row. row ++ 10 ∷ []) xs ys

joined_more : (rows : List (List ℕ)) (i : ℕ) (row : List ℕ) → i < length rows → get_or rows i [] ≡ row → joined (take (i + 1) rows) ≡ joined (take i rows) ++ (row ++ 10 ∷ [])
joined_more rows i row h e = ap joined (take_more rows i [] h ∙ ap (λ r. take i rows ++ r ∷ []) e) ∙ joined-append (take i rows) (row ∷ []) ∙ ap (λ t. joined (take i rows) ++ t) (append-nil (row ++ 10 ∷ []))

-- one more row that is written
pub row_more : (rows : List (List ℕ)) (i : ℕ) (row old now mid new : List ℕ) → i < length rows → get_or rows i [] ≡ row → now ≡ old ++ joined (take i rows) → mid ≡ now ++ row → new ≡ mid ++ 10 ∷ [] → new ≡ old ++ joined (take (i + 1) rows)
row_more rows i row old now mid new h er e0 e1 e2 =
    e2 ∙ ap (λ r. r ++ 10 ∷ []) (e1 ∙ ap (λ r. r ++ row) e0) ∙ append_assoc (old ++ joined (take i rows)) row (10 ∷ []) ∙ append_assoc old (joined (take i rows)) (row ++ 10 ∷ []) ∙ ap (λ t. old ++ t) (sym (joined_more rows i row h er))

-- there is room for it
pub row_room : (rows : List (List ℕ)) (i : ℕ) (row : List ℕ) → i < length rows → get_or rows i [] ≡ row → length (joined (take i rows)) + (length row + 1) ≤ length (joined rows)
row_room rows i row h er =
    let split : joined rows ≡ joined (take (i + 1) rows) ++ joined (drop (i + 1) rows) = ap joined (sym (take-append-drop (i + 1) rows)) ∙ joined-append (take (i + 1) rows) (drop (i + 1) rows) in
    omega (arith, ap length split, length-append (joined (take (i + 1) rows)) (joined (drop (i + 1) rows)), ap length (joined_more rows i row h er), length-append (joined (take i rows)) (row ++ 10 ∷ []), length-append row (10 ∷ []))

-- row i of those that a function shows
pub shown_at : {V : Type 0} (xs : List V) (f : V → List ℕ) (i : ℕ) (d : V) (rows : List (List ℕ)) → map f xs ≡ rows → i < length xs → get_or rows i [] ≡ f (get_or xs i d)
shown_at xs f i d rows e h = ap (λ r. get_or r i []) (sym e) ∙ at_of xs f i d h
