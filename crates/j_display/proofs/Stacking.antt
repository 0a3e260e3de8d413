-- Rows that stand one after the other, with empty rows between.
use Rattle.std.proofs.Common.{◌≡◌, ℕ, ◌+◌, ◌*◌, ◌<◌, ◌≤◌, List, [], ◌∷◌, ◌++◌, length, map, take, drop, get_or, replicate, refl, sym, ap, ◌∙◌, arith, append_assoc}
use Prim.Native.Nat.{zero, suc}
use Rattle.std.specs.List.{flat_map, join_by, range_with_len}
use Rattle.std.proofs.lemmas.List.{append-nil, take-append-drop, take_more, length-append, length-replicate, length-take-le}
use Rattle.std.proofs.lemmas.List.Concat.{flat_map-append}
use Rattle.std.proofs.lemmas.List.FromFn.{map-range_with_len_more, take-map-range_with_len, length-map-range_with_len}
use Rattle.std.proofs.lemmas.Nat.{row_fits}
use Rattle.j_definitions.specs.Array.{product}
use Rattle.j_display.specs.Rows.{pieces, stacked, joined}
use Rattle.j_display.specs.Lines.{between}

pub join_by-append : {X A : Type 0} (f : X → List A) (sep : List A) (ys zs : List X) → (r : List A) × (join_by f sep (ys ++ zs) ≡ join_by f sep ys ++ r)
join_by-append f sep [] zs = (join_by f sep zs, refl)
join_by-append f sep (y ∷ ys) zs = (
  flat_map (λ z. sep ++ f z) zs,
  ap (λ r. f y ++ r) (flat_map-append (λ z. sep ++ f z) ys zs) ∙ sym (append_assoc (f y) (flat_map (λ z. sep ++ f z) ys) (flat_map (λ z. sep ++ f z) zs)),
)

-- one more piece
pub join_by-push : {X A : Type 0} (f : X → List A) (n : ℕ) (x : A) (ys : List X) (y : X) →
    join_by f (replicate n x) (ys ++ y ∷ []) ≡ join_by f (replicate n x) ys ++ (replicate (between (length ys) n) x ++ f y)
join_by-push f n x [] y = append-nil (f y)
join_by-push f n x (z ∷ ys) y =
    ap (λ r. f z ++ r) (flat_map-append (λ w. replicate n x ++ f w) ys (y ∷ []) ∙ ap (λ r. flat_map (λ w. replicate n x ++ f w) ys ++ r) (append-nil (replicate n x ++ f y)))
    ∙ sym (append_assoc (f z) (flat_map (λ w. replicate n x ++ f w) ys) (replicate n x ++ f y))

pub join_by_more : {X A : Type 0} (f : X → List A) (n : ℕ) (x : A) (xs : List X) (i : ℕ) (d : X) → i < length xs →
    join_by f (replicate n x) (take (i + 1) xs) ≡ join_by f (replicate n x) (take i xs) ++ (replicate (between i n) x ++ f (get_or xs i d))
join_by_more f n x xs i d h =
    ap (join_by f (replicate n x)) (take_more xs i d h) ∙ join_by-push f n x (take i xs) (get_or xs i d)
    ∙ ap (λ k. join_by f (replicate n x) (take i xs) ++ (replicate (between k n) x ++ f (get_or xs i d))) (length-take-le i xs (omega arith))

-- what comes after the first pieces
pub join_by_rest : {X A : Type 0} (f : X → List A) (sep : List A) (xs : List X) (i : ℕ) → (r : List A) × (join_by f sep xs ≡ join_by f sep (take i xs) ++ r)
join_by_rest f sep xs i =
    let split = join_by-append f sep (take i xs) (drop i xs) in
    (split.0, ap (join_by f sep) (sym (take-append-drop i xs)) ∙ split.1)

joined-append : (xs ys : List (List ℕ)) → joined (xs ++ ys) ≡ joined xs ++ joined ys
joined-append xs ys = flat_map-append (λ row. row ++ 10 ∷ []) xs ys

joined-replicate : (n : ℕ) → joined (replicate n []) ≡ replicate n 10
joined-replicate zero = refl
joined-replicate (suc n) = ap (λ r. 10 ∷ r) (joined-replicate n)

-- a run of what a range gives
run : {X : Type 0} (f : ℕ → X) (a n i m : ℕ) → i + m ≤ n → take m (drop i (map f (range_with_len a n))) ≡ map f (range_with_len (a + i) m)
run f a n zero m h = let e : a ≡ a + 0 = omega arith in take-map-range_with_len f a n m (omega arith) ∙ ap (λ b. map f (range_with_len b m)) e
run f a zero (suc i) m h = absurd (omega arith)
run f a (suc n) (suc i) m h =
    let e : (a + 1) + i ≡ a + suc i = omega arith in
    run f (a + 1) n i m (omega arith) ∙ ap (λ b. map f (range_with_len b m)) e

same_map : {X : Type 0} (f g : ℕ → X) (a n : ℕ) → ((k : ℕ) → k < a + n → f k ≡ g k) → map f (range_with_len a n) ≡ map g (range_with_len a n)
same_map f g a zero h = refl
same_map f g a (suc n) h =
    ap (λ x. x ∷ map f (range_with_len (a + 1) n)) (h a (omega arith)) ∙ ap (λ r. g a ∷ r) (same_map f g (a + 1) n (λ k l. h k (omega arith)))

pieces_of_range : {X : Type 0} (f : ℕ → X) (a n p : ℕ) → pieces n p (map f (range_with_len a (n * p))) ≡ map (λ k. map f (range_with_len (a + k * p) p)) (range_with_len 0 n)
pieces_of_range f a n p =
    same_map (λ k. take p (drop (k * p) (map f (range_with_len a (n * p))))) (λ k. map f (range_with_len (a + k * p) p)) 0 n
    (λ k h. run f a (n * p) (k * p) p (row_fits k p n p (omega arith) (omega arith)))

-- the rows of the first k items, where f gives the row of each line
abbrev pub first_items : List ℕ → (ℕ → List ℕ) → ℕ → ℕ → List (List ℕ)
first_items frame f from k = join_by (stacked frame) (replicate (length frame) []) (map (λ i. map f (range_with_len (from + i * product frame) (product frame))) (range_with_len 0 k))

abbrev pub item_rows : List ℕ → (ℕ → List ℕ) → ℕ → ℕ → List (List ℕ)
item_rows frame f from k = stacked frame (map f (range_with_len (from + k * product frame) (product frame)))

pub items_more : (frame : List ℕ) (f : ℕ → List ℕ) (from k : ℕ) → first_items frame f from (k + 1) ≡ first_items frame f from k ++ (replicate (between k (length frame)) [] ++ item_rows frame f from k)
items_more frame f from k =
    let g : ℕ → List (List ℕ) = λ i. map f (range_with_len (from + i * product frame) (product frame)) in
    ap (join_by (stacked frame) (replicate (length frame) [])) (map-range_with_len_more g 0 k k (omega arith))
    ∙ join_by-push (stacked frame) (length frame) [] (map g (range_with_len 0 k)) (g k)
    ∙ ap (λ j. first_items frame f from k ++ (replicate (between j (length frame)) [] ++ item_rows frame f from k)) (length-map-range_with_len g 0 k)

pub items_all : (n : ℕ) (frame : List ℕ) (f : ℕ → List ℕ) (from : ℕ) → first_items frame f from n ≡ stacked (n ∷ frame) (map f (range_with_len from (product (n ∷ frame))))
items_all n frame f from = ap (join_by (stacked frame) (replicate (length frame) [])) (sym (pieces_of_range f from n (product frame)))

-- what is written for one more item
pub written : (frame : List ℕ) (f : ℕ → List ℕ) (from k : ℕ) →
    joined (first_items frame f from (k + 1)) ≡ joined (first_items frame f from k) ++ (replicate (between k (length frame)) 10 ++ joined (item_rows frame f from k))
written frame f from k =
    ap joined (items_more frame f from k) ∙ joined-append (first_items frame f from k) (replicate (between k (length frame)) [] ++ item_rows frame f from k)
    ∙ ap (λ r. joined (first_items frame f from k) ++ r) (joined-append (replicate (between k (length frame)) []) (item_rows frame f from k))
    ∙ ap (λ r. joined (first_items frame f from k) ++ (r ++ joined (item_rows frame f from k))) (joined-replicate (between k (length frame)))

pub written_more : (frame : List ℕ) (f : ℕ → List ℕ) (from k next : ℕ) (old now parted new : List ℕ) → next ≡ from + k * product frame →
    now ≡ old ++ joined (first_items frame f from k) → parted ≡ now ++ replicate (between k (length frame)) 10 →
    new ≡ parted ++ joined (stacked frame (map f (range_with_len next (product frame)))) → new ≡ old ++ joined (first_items frame f from (k + 1))
written_more frame f from k next old now parted new e en ep ew =
    let gap : List ℕ = replicate (between k (length frame)) 10 in
    ew ∙ ap (λ b. parted ++ joined (stacked frame (map f (range_with_len b (product frame))))) e ∙ ap (λ r. r ++ joined (item_rows frame f from k)) (ep ∙ ap (λ r. r ++ gap) en)
    ∙ append_assoc (old ++ joined (first_items frame f from k)) gap (joined (item_rows frame f from k))
    ∙ append_assoc old (joined (first_items frame f from k)) (gap ++ joined (item_rows frame f from k)) ∙ ap (λ r. old ++ r) (sym (written frame f from k))

-- there is room for one more item, where there is room for all
pub item_fits : (n : ℕ) (frame : List ℕ) (f : ℕ → List ℕ) (from k : ℕ) → k < n →
    length (joined (first_items frame f from k)) + between k (length frame) + length (joined (item_rows frame f from k)) ≤ length (joined (stacked (n ∷ frame) (map f (range_with_len from (product (n ∷ frame))))))
item_fits n frame f from k h =
    let g : ℕ → List (List ℕ) = λ i. map f (range_with_len (from + i * product frame) (product frame)) in
    let rest = join_by_rest (stacked frame) (replicate (length frame) []) (map g (range_with_len 0 n)) (k + 1) in
    let first : first_items frame f from n ≡ first_items frame f from (k + 1) ++ rest.0 =
    rest.1 ∙ ap (λ ys. join_by (stacked frame) (replicate (length frame) []) ys ++ rest.0) (take-map-range_with_len g 0 n (k + 1) (omega arith)) in
    let whole : joined (stacked (n ∷ frame) (map f (range_with_len from (product (n ∷ frame))))) ≡ joined (first_items frame f from (k + 1)) ++ joined rest.0 =
    ap joined (sym (items_all n frame f from) ∙ first) ∙ joined-append (first_items frame f from (k + 1)) rest.0 in
    let gap : List ℕ = replicate (between k (length frame)) 10 in
    let sum : length (joined (stacked (n ∷ frame) (map f (range_with_len from (product (n ∷ frame)))))) ≡ length (joined (first_items frame f from k)) + (length gap + length (joined (item_rows frame f from k))) + length (joined rest.0) =
    ap length whole ∙ length-append (joined (first_items frame f from (k + 1))) (joined rest.0)
    ∙ ap (λ m. m + length (joined rest.0)) (ap length (written frame f from k) ∙ length-append (joined (first_items frame f from k)) (gap ++ joined (item_rows frame f from k)) ∙ ap (λ m. length (joined (first_items frame f from k)) + m) (length-append gap (joined (item_rows frame f from k)))) in
    let blanks : length gap ≡ between k (length frame) = length-replicate (between k (length frame)) 10 in
    omega arith

-- there is room for one more piece, where there is room for all
pub join_by_fits : {X A : Type 0} (f : X → List A) (n : ℕ) (x : A) (xs : List X) (i : ℕ) (d : X) → i < length xs →
    length (join_by f (replicate n x) (take i xs)) + between i n + length (f (get_or xs i d)) ≤ length (join_by f (replicate n x) xs)
join_by_fits {A = A} f n x xs i d h =
    let rest = join_by_rest f (replicate n x) xs (i + 1) in
    let gap : List A = replicate (between i n) x in
    let first : length (join_by f (replicate n x) (take (i + 1) xs)) ≡ length (join_by f (replicate n x) (take i xs)) + (length gap + length (f (get_or xs i d))) =
    ap length (join_by_more f n x xs i d h) ∙ length-append (join_by f (replicate n x) (take i xs)) (gap ++ f (get_or xs i d)) ∙ ap (λ m. length (join_by f (replicate n x) (take i xs)) + m) (length-append gap (f (get_or xs i d))) in
    let whole : length (join_by f (replicate n x) xs) ≡ length (join_by f (replicate n x) (take (i + 1) xs)) + length rest.0 = ap length rest.1 ∙ length-append (join_by f (replicate n x) (take (i + 1) xs)) rest.0 in
    let blanks : length gap ≡ between i n = length-replicate (between i n) x in
    omega arith
