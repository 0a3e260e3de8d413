-- Parts of lists at places.
use Rattle.std.proofs.Common.{◌≡◌, ◌<◌, ◌≤◌, ◌+◌, ◌-◌, ◌*◌, ℕ, List, [], ◌∷◌, ◌++◌, length, map, take, drop, reverse, get_or, arith, refl, sym, ap, ◌∙◌}
use Prim.Native.Nat.{zero, suc}
use Rattle.std.specs.List.{All, flat_map, range_with_len}
use Rattle.std.proofs.lemmas.List.{take-map, drop-map, map-append, take-append-drop, drop-drop, drop-take, take-take, take_more, drop_more, take_all, get_or-reverse, length-reverse, append-nil, append_assoc}
use Rattle.std.proofs.lemmas.List.Concat.{flat_map-append}
use Rattle.std.proofs.lemmas.List.FromFn.{length-range_with_len, get_or-range_with_len}
use Rattle.std.proofs.lemmas.List.Elements.{All-nil, All-append, All-take, All-drop}
use Rattle.std.proofs.Math.Nat.{mul-le-mul_left, mul_comm}
use Rattle.j_definitions.specs.Array.{Array, tally}
use Rattle.j_definitions.specs.Items.{item, item_size}
use Rattle.j_places.specs.ItemPlaces.{parts_at}

-- parts of what atoms are made of
pub map-parts_at : {X Y : Type 0} (f : X → Y) (size : ℕ) (xs : List X) (ks : List ℕ) → map f (parts_at size xs ks) ≡ parts_at size (map f xs) ks
map-parts_at f size xs [] = refl
map-parts_at f size xs (k ∷ ks) =
    map-append f (take size (drop (k * size) xs)) (parts_at size xs ks)
    ∙ ap (λ r. map f (take size (drop (k * size) xs)) ++ r) (map-parts_at f size xs ks)
    ∙ ap (λ r. r ++ parts_at size (map f xs) ks) (sym (ap (take size) (drop-map f (k * size) xs) ∙ take-map f size (drop (k * size) xs)))

pub All-parts_at : {X : Type 0} (P : X → Type 0) (size : ℕ) (xs : List X) (ks : List ℕ) → All P xs → All P (parts_at size xs ks)
All-parts_at P size xs [] h = All-nil P
All-parts_at P size xs (k ∷ ks) h =
    All-append P (take size (drop (k * size) xs)) (parts_at size xs ks) (All-take P size (drop (k * size) xs) (All-drop P (k * size) xs h)) (All-parts_at P size xs ks h)

-- neighbouring parts make a run
pub split_at : {X : Type 0} (xs : List X) (m n : ℕ) → take m xs ++ take n (drop m xs) ≡ take (m + n) xs
split_at xs m n =
    ap (λ r. take m xs ++ r) (sym (drop-take m n xs)) ∙ ap (λ r. r ++ drop m (take (m + n) xs)) (sym (take-take m (m + n) xs (omega arith)))
    ∙ take-append-drop m (take (m + n) xs)

pub parts_joined : {X : Type 0} (size : ℕ) (xs : List X) (a n : ℕ) → parts_at size xs (range_with_len a n) ≡ take (n * size) (drop (a * size) xs)
parts_joined size xs a zero = let none : 0 ≡ 0 * size = omega arith in ap (λ k. take k (drop (a * size) xs)) none
parts_joined size xs a (suc n) =
    let next : (a + 1) * size ≡ a * size + size = omega arith in
    let more : size + n * size ≡ suc n * size = omega arith in
    ap (λ r. take size (drop (a * size) xs) ++ r) (parts_joined size xs (a + 1) n ∙ ap (λ j. take (n * size) (drop j xs)) next ∙ ap (take (n * size)) (sym (drop-drop size (a * size) xs)))
    ∙ split_at (drop (a * size) xs) size (n * size) ∙ ap (λ k. take k (drop (a * size) xs)) more

-- a run of parts is within all of them
pub parts_within : (first count all size len : ℕ) → first + count ≤ all → all * size ≡ len → first * size + count * size ≤ len
parts_within first count all size len h e = omega (arith, e, mul-le-mul_left size h, mul_comm size all, mul_comm size (first + count))

-- the items of a run
pub run_of_items : (y : Array) (first count size : ℕ) → first + count ≤ tally y.shape → (0 < tally y.shape → size ≡ item_size y.shape) →
    take (count * size) (drop (first * size) y.atoms) ≡ flat_map (item y) (range_with_len first count)
run_of_items y first zero size h e = let none : 0 * size ≡ 0 = omega arith in ap (λ k. take k (drop (first * size) y.atoms)) none
run_of_items y first (suc n) size h e =
    ap (λ k. take (suc n * k) (drop (first * k) y.atoms)) (e (omega arith)) ∙ sym (parts_joined (item_size y.shape) y.atoms first (suc n))

-- one more part in reverse
pub reversed_more : {X : Type 0} (size : ℕ) (xs out new run : List X) (count k : ℕ) → k < count → run ≡ take size (drop ((count - 1 - k) * size) xs) →
    out ≡ new ++ parts_at size xs (take k (reverse (range_with_len 0 count))) → out ++ run ≡ new ++ parts_at size xs (take (k + 1) (reverse (range_with_len 0 count)))
reversed_more size xs out new run count k h is before =
    let back = reverse (range_with_len 0 count) in
    let many : length back ≡ count = length-reverse (range_with_len 0 count) ∙ length-range_with_len 0 count in
    let at : get_or back k 0 ≡ count - 1 - k =
    get_or-reverse (range_with_len 0 count) k 0 (omega (arith, length-range_with_len 0 count)) ∙ ap (λ n. get_or (range_with_len 0 count) (n - 1 - k) 0) (length-range_with_len 0 count)
    ∙ get_or-range_with_len 0 count (count - 1 - k) 0 (omega arith) ∙ (let e : 0 + (count - 1 - k) ≡ count - 1 - k = omega arith in e) in
    let piece : List _ = take size (drop ((count - 1 - k) * size) xs) in
    ap (λ r. r ++ run) before ∙ append_assoc new (parts_at size xs (take k back)) run
    ∙ ap (λ r. new ++ r)
    (ap (λ r. parts_at size xs (take k back) ++ r) (is ∙ sym (append-nil piece))
    ∙ ap (λ j. parts_at size xs (take k back) ++ (take size (drop (j * size) xs) ++ [])) (sym at)
    ∙ sym (flat_map-append (λ j. take size (drop (j * size) xs)) (take k back) (get_or back k 0 ∷ []))
    ∙ ap (parts_at size xs) (sym (take_more back k 0 (omega (arith, many)))))

-- one element as a part
pub part_of_one : {X : Type 0} (xs : List X) (j : ℕ) (x : X) → j < length xs → x ≡ get_or xs j x → x ∷ [] ≡ take 1 (drop (j * 1) xs)
part_of_one xs j x h is =
    let same : j * 1 ≡ j = omega arith in
    ap (λ w. w ∷ []) is ∙ sym (ap (take 1) (drop_more xs j x h)) ∙ sym (ap (λ i. take 1 (drop i xs)) same)

pub reversed_all : {X : Type 0} (size : ℕ) (xs : List X) (count k : ℕ) → count ≤ k → parts_at size xs (take k (reverse (range_with_len 0 count))) ≡ parts_at size xs (reverse (range_with_len 0 count))
reversed_all size xs count k h = ap (parts_at size xs) (take_all k (reverse (range_with_len 0 count)) (omega (arith, length-reverse (range_with_len 0 count), length-range_with_len 0 count)))
