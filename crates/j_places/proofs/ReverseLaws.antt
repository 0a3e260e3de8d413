-- Items in reverse, twice.
use Rattle.std.proofs.Common.{◌≡◌, ◌<◌, ◌≤◌, ◌+◌, ◌*◌, ℕ, List, [], ◌∷◌, ◌++◌, length, take, drop, reverse, arith, refl, sym, ap, ◌∙◌, Bool, true, false, cond, Result, Ok, Err}
use Prim.Native.Nat.{zero, suc}
use Rattle.std.specs.List.{range_with_len}
use Rattle.std.proofs.lemmas.List.{reverse-append, append-nil, append_assoc, length-take, length-drop, length-reverse}
use Rattle.std.proofs.lemmas.List.FromFn.{length-range_with_len}
use Rattle.j_definitions.specs.Array.{Array, Atom, product, IsNoun}
use Rattle.j_definitions.specs.declared.Kind.{Kind}
use Rattle.j_definitions.specs.declared.Fault.{Fault}
use Rattle.j_definitions.specs.declared.Fault.TheVariants.{Limit}
use Rattle.j_definitions.specs.Limits.{is_within, limited}
use Rattle.j_definitions.proofs.Limits.{limited-Ok}
use Rattle.j_places.specs.ItemPlaces.{parts_at, places, items_at, reversed}
use Rattle.j_places.proofs.PartLaws.{split_at}

-- n parts in reverse
abbrev back : {X : Type 0} → ℕ → ℕ → List X → List X
back size n xs = parts_at size xs (reverse (range_with_len 0 n))

range_last : (a n : ℕ) → range_with_len a (suc n) ≡ range_with_len a n ++ (a + n) ∷ []
range_last a zero = let e : a ≡ a + 0 = omega arith in ap (λ j. j ∷ []) e
range_last a (suc n) = let e : (a + 1) + n ≡ a + suc n = omega arith in ap (λ r. a ∷ r) (range_last (a + 1) n ∙ ap (λ j. range_with_len (a + 1) n ++ j ∷ []) e)

-- the last part comes first
back_last : {X : Type 0} (size n : ℕ) (xs : List X) → back size (suc n) xs ≡ take size (drop (n * size) xs) ++ back size n xs
back_last size n xs =
    let end : 0 + n ≡ n = omega arith in
    ap (λ ks. parts_at size xs (reverse ks)) (range_last 0 n ∙ ap (λ j. range_with_len 0 n ++ j ∷ []) end) ∙ ap (parts_at size xs) (reverse-append (range_with_len 0 n) (n ∷ []))

take_front : {X : Type 0} (a ys : List X) → take (length a) (a ++ ys) ≡ a
take_front [] ys = refl
take_front (x ∷ a) ys = ap (λ r. x ∷ r) (take_front a ys)

drop_front : {X : Type 0} (k : ℕ) (a ys : List X) → drop (length a + k) (a ++ ys) ≡ drop k ys
drop_front k [] ys = let same : 0 + k ≡ k = omega arith in ap (λ j. drop j ys) same
drop_front k (x ∷ a) ys = let more : suc (length a) + k ≡ suc (length a + k) = omega arith in ap (λ j. drop j (x ∷ a ++ ys)) more ∙ drop_front k a ys

-- the first part comes last
back_first : {X : Type 0} (size n : ℕ) (a ys : List X) → length a ≡ size → back size (suc n) (a ++ ys) ≡ back size n ys ++ a
back_first size zero a ys e =
    let none : 0 * size ≡ 0 = omega arith in
    back_last size 0 (a ++ ys) ∙ append-nil (take size (drop (0 * size) (a ++ ys))) ∙ ap (λ j. take size (drop j (a ++ ys))) none ∙ ap (λ m. take m (a ++ ys)) (sym e) ∙ take_front a ys
back_first size (suc n) a ys e =
    let on : suc n * size ≡ length a + n * size = omega (arith, e) in
    back_last size (suc n) (a ++ ys) ∙ ap (λ j. take size (drop j (a ++ ys)) ++ back size (suc n) (a ++ ys)) on
    ∙ ap (λ r. take size r ++ back size (suc n) (a ++ ys)) (drop_front (n * size) a ys)
    ∙ ap (λ r. take size (drop (n * size) ys) ++ r) (back_first size n a ys e)
    ∙ sym (append_assoc (take size (drop (n * size) ys)) (back size n ys) a) ∙ ap (λ r. r ++ a) (sym (back_last size n ys))

back_back : {X : Type 0} (size n : ℕ) (xs : List X) → n * size ≤ length xs → back size n (back size n xs) ≡ take (n * size) xs
back_back size zero xs h = let none : 0 ≡ 0 * size = omega arith in ap (λ k. take k xs) none
back_back size (suc n) xs h =
    let last : List _ = take size (drop (n * size) xs) in
    let room : n * size + size ≤ length xs = omega arith in
    let many : length last ≡ size = omega (arith, length-take size (drop (n * size) xs), length-drop (n * size) xs) in
    let all : n * size + size ≡ suc n * size = omega arith in
    ap (back size (suc n)) (back_last size n xs) ∙ back_first size n last (back size n xs) many ∙ ap (λ r. r ++ last) (back_back size n xs (omega arith))
    ∙ split_at xs (n * size) size ∙ ap (λ k. take k xs) all

take_whole : {X : Type 0} (n : ℕ) (xs : List X) → length xs ≡ n → take n xs ≡ xs
take_whole n xs e = ap (λ k. take k xs) (sym e) ∙ ap (take (length xs)) (sym (append-nil xs)) ∙ take_front xs []

abbrev noun : Kind → ℕ → List ℕ → List Atom → Array
noun k n s xs = record { kind = k; shape = n ∷ s; atoms = xs }

abbrev turned : Array → Array
turned y = items_at (reverse (places y)) y

back_many : (n : ℕ) → length (reverse (range_with_len 0 n)) ≡ n
back_many n = length-reverse (range_with_len 0 n) ∙ length-range_with_len 0 n

turned_once : (k : Kind) (n : ℕ) (s : List ℕ) (xs : List Atom) → turned (noun k n s xs) ≡ noun k n s (back (product s) n xs)
turned_once k n s xs = ap (λ m. noun k m s (back (product s) n xs)) (back_many n)

turned_twice : (k : Kind) (n : ℕ) (s : List ℕ) (xs : List Atom) → length xs ≡ n * product s → turned (turned (noun k n s xs)) ≡ noun k n s xs
turned_twice k n s xs e =
    ap turned (turned_once k n s xs) ∙ turned_once k n s (back (product s) n xs)
    ∙ ap (noun k n s) (back_back (product s) n xs (omega (arith, e)) ∙ take_whole (n * product s) xs e)

-- what is within the limits is its own result
result_by : (a r : Array) (b : Bool) → (let q : Result Array Fault = cond b (Ok a) (Err Limit) in q) ≡ Ok r → r ≡ a
result_by a r true h = cc
result_by a r false h = cc

twice_by : (k : Kind) (s : List ℕ) (xs : List Atom) (r : Array) → IsNoun (record { kind = k; shape = s; atoms = xs }) → 0 < length s →
    reversed (record { kind = k; shape = s; atoms = xs }) ≡ Ok r → reversed r ≡ Ok (record { kind = k; shape = s; atoms = xs })
twice_by k [] xs r noun some h = absurd (omega arith)
twice_by k (n ∷ s) xs r is_noun some h =
    let y : Array = noun k n s xs in
    ap reversed (result_by (turned y) r (is_within (turned y)) h) ∙ ap limited (turned_twice k n s xs is_noun.as_many) ∙ limited-Ok y is_noun.within

-- a noun with axes, turned twice, is itself
pub reversed_twice : (y r : Array) → IsNoun y → 0 < length y.shape → reversed y ≡ Ok r → reversed r ≡ Ok y
reversed_twice y r is_noun some h = twice_by y.kind y.shape y.atoms r is_noun some h
