-- Parts of lists at places.
use Rattle.std.proofs.Common.{◌≡◌, ◌<◌, ◌≤◌, ◌+◌, ◌-◌, ◌*◌, ℕ, List, [], ◌∷◌, ◌++◌, length, map, take, drop, arith, refl, sym, ap, ◌∙◌}
use Prim.Native.Nat.{zero, suc}
use Rattle.std.specs.List.{All, range_with_len}
use Rattle.std.proofs.lemmas.List.{take-map, drop-map, map-append, take-append-drop, drop-drop, drop-take, take-take, length-append, length-take, length-drop}
use Rattle.std.proofs.lemmas.List.Elements.{All-nil, All-append, All-take, All-drop, All-head, All-tail}
use Rattle.std.proofs.Math.Nat.{mul-le-mul_left, mul_comm}
use Rattle.j_scans.specs.Pieced.{parts_at}

-- parts of what atoms are made of
pub map-parts_at : {X Y : Type 0} (f : X → Y) (size : ℕ) (xs : List X) (ks : List ℕ) → map f (parts_at size xs ks) ≡ parts_at size (map f xs) ks
map-parts_at f size xs [] = refl
map-parts_at f size xs (k ∷ ks) =
    map-append f (take size (drop (k * size) xs)) (parts_at size xs ks)
    ∙ ap (λ r. map f (take size (drop (k * size) xs)) ++ r) (map-parts_at f size xs ks)
    ∙ ap (λ r. r ++ parts_at size (map f xs) ks) (sym (ap (take size) (drop-map f (k * size) xs) ∙ take-map f size (drop (k * size) xs)))

pub All-parts_at : {X : Type 0} (P : X → Type 0) (size : ℕ) (xs : List X) (ks : List ℕ) → All P xs → All P (parts_at size xs ks)
All-parts_at P size xs [] h = All-nil P
All-parts_at P size xs (k ∷ ks) h =
    All-append P (take size (drop (k * size) xs)) (parts_at size xs ks) (All-take P size (drop (k * size) xs) (All-drop P (k * size) xs h)) (All-parts_at P size xs ks h)

-- neighbouring parts make a run
split_at : {X : Type 0} (xs : List X) (m n : ℕ) → take m xs ++ take n (drop m xs) ≡ take (m + n) xs
split_at xs m n =
    ap (λ r. take m xs ++ r) (sym (drop-take m n xs)) ∙ ap (λ r. r ++ drop m (take (m + n) xs)) (sym (take-take m (m + n) xs (omega arith)))
    ∙ take-append-drop m (take (m + n) xs)

parts_joined : {X : Type 0} (size : ℕ) (xs : List X) (a n : ℕ) → parts_at size xs (range_with_len a n) ≡ take (n * size) (drop (a * size) xs)
parts_joined size xs a zero = let none : 0 ≡ 0 * size = omega arith in ap (λ k. take k (drop (a * size) xs)) none
parts_joined size xs a (suc n) =
    let next : (a + 1) * size ≡ a * size + size = omega arith in
    let more : size + n * size ≡ suc n * size = omega arith in
    ap (λ r. take size (drop (a * size) xs) ++ r) (parts_joined size xs (a + 1) n ∙ ap (λ j. take (n * size) (drop j xs)) next ∙ ap (take (n * size)) (sym (drop-drop size (a * size) xs)))
    ∙ split_at (drop (a * size) xs) size (n * size) ∙ ap (λ k. take k (drop (a * size) xs)) more

stretch_as : {X : Type 0} (size : ℕ) (xs : List X) (a n b : ℕ) → a + n ≡ b → take (b * size - a * size) (drop (a * size) xs) ≡ parts_at size xs (range_with_len a n)
stretch_as size xs a n b e =
    let all : (a + n) * size ≡ b * size = ap (λ j. j * size) e in
    let own : b * size - a * size ≡ n * size = omega (arith, all) in
    ap (λ k. take k (drop (a * size) xs)) own ∙ sym (parts_joined size xs a n)

-- a run of elements is the parts from one place up to another
pub stretch_is : {X : Type 0} (size : ℕ) (xs : List X) (a b : ℕ) → a ≤ b → take (b * size - a * size) (drop (a * size) xs) ≡ parts_at size xs (range_with_len a (b - a))
stretch_is size xs a b h = stretch_as size xs a (b - a) b (omega arith)

pub parts_many : {X : Type 0} (size n : ℕ) (xs : List X) (ks : List ℕ) → n * size ≡ length xs → All (λ k. k < n) ks → length (parts_at size xs ks) ≡ length ks * size
parts_many size n xs [] e h = omega arith
parts_many size n xs (k ∷ ks) e h =
    let inside : k < n = All-head (λ j. j < n) k ks h in
    let more : k + 1 ≤ n = omega arith in
    omega (
      arith,
      length-append (take size (drop (k * size) xs)) (parts_at size xs ks),
      length-take size (drop (k * size) xs),
      length-drop (k * size) xs,
      e,
      mul_comm size (k + 1),
      mul_comm size n,
      mul-le-mul_left size more,
      parts_many size n xs ks e (All-tail (λ j. j < n) k ks h),
    )
