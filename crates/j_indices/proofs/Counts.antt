-- Numbers as counts, and places that they repeat.
use Rattle.std.proofs.Common.{◌≡◌, ◌<◌, ◌≤◌, ◌≤ℤ◌, ◌<ℤ◌, ◌+◌, ℕ, ℤ, pos, negsuc, unsigned_abs, List, [], ◌∷◌, ◌++◌, length, map, take, get_or, replicate, sum, arith, refl, sym, ap, ◌∙◌, append_assoc, append-nil, Result, Ok, Err}
use Prim.Native.Nat.{zero, suc}
use Rattle.std.specs.List.{All}
use Rattle.std.proofs.lemmas.Int.{ints}
use Rattle.std.proofs.lemmas.List.{map-append, map_more, length-append, length-map, length-replicate, length-take-le, take_all}
use Rattle.std.proofs.lemmas.List.Elements.{All-head, All-tail}
use Rattle.std.proofs.lemmas.List.Sums.{sum_by-cons, sum_by-append}
use Rattle.j_definitions.specs.Array.{number}
use Rattle.j_definitions.specs.Cells.{in_order, with_first}
use Rattle.j_definitions.specs.Limits.{limited}
use Rattle.j_definitions.proofs.Limits.{many_beyond}
use Rattle.j_definitions.specs.declared.Fault.{Fault}
use Rattle.j_definitions.specs.declared.Fault.TheVariants.{Domain, Limit}
use Rattle.j_indices.specs.Numbers.{count_of, counts_of, magnitudes, IsTotal}
use Rattle.j_indices.specs.Counting.{repeated_from, numbered}

pub negative_count : (z : ℤ) → z <ℤ pos 0 → count_of z ≡ Err Domain
negative_count (pos n) h = absurd (omega (arith, ints))
negative_count (negsuc n) h = refl

pub other_count : (z : ℤ) → pos 0 ≤ℤ z → count_of z ≡ Ok (unsigned_abs z)
other_count (pos n) h = refl
other_count (negsuc n) h = absurd (omega (arith, ints))

-- a number that is a count
abbrev pub IsCount : ℤ → Type 0
IsCount z = count_of z ≡ Ok (unsigned_abs z)

pub all_counted : {X : Type 0} (value : X → ℤ) (xs : List X) → All (λ x. IsCount (value x)) xs → counts_of (map value xs) ≡ Ok (magnitudes (map value xs))
all_counted value [] h = refl
all_counted value (x ∷ xs) h =
    ap (λ (r : Result ℕ Fault). in_order {C = ℕ} {E = Fault} (r ∷ map count_of (map value xs))) (All-head (λ y. IsCount (value y)) x xs h)
    ∙ ap (with_first {C = ℕ} {E = Fault} (unsigned_abs (value x))) (all_counted value xs (All-tail (λ y. IsCount (value y)) x xs h))

-- after a number that is none all is a fault
later_fault : (z : ℤ) (zs : List ℤ) → counts_of zs ≡ Err Domain → counts_of (z ∷ zs) ≡ Err Domain
later_fault (pos n) zs h = ap (with_first {C = ℕ} {E = Fault} n) h
later_fault (negsuc n) zs h = refl

pub one_negative : {X : Type 0} (value : X → ℤ) (xs : List X) (i : ℕ) (x : X) → i < length xs → x ≡ get_or xs i x → count_of (value x) ≡ Err Domain → counts_of (map value xs) ≡ Err Domain
one_negative value [] i x h is e = absurd (omega arith)
one_negative value (y ∷ ys) zero x h is e = ap (λ (r : Result ℕ Fault). in_order {C = ℕ} {E = Fault} (r ∷ map count_of (map value ys))) (sym (ap (λ w. count_of (value w)) is) ∙ e)
one_negative value (y ∷ ys) (suc i) x h is e = let below : i < length ys = omega arith in later_fault (value y) (map value ys) (one_negative value ys i x below is e)

-- as many places as the counts' sum
pub length-repeated : (i : ℕ) (counts : List ℕ) → length (repeated_from i counts) ≡ sum counts
length-repeated i [] = refl
length-repeated i (n ∷ counts) = omega (arith, length-append (replicate n i) (repeated_from (i + 1) counts), length-replicate n i, length-repeated (i + 1) counts, sum_by-cons (λ (x : ℕ). x) n counts)

pub repeated-append : (i : ℕ) (counts : List ℕ) (n : ℕ) → repeated_from i (counts ++ n ∷ []) ≡ repeated_from i counts ++ replicate n (i + length counts)
repeated-append i [] n = let e : i ≡ i + 0 = omega arith in append-nil (replicate n i) ∙ ap (replicate n) e
repeated-append i (m ∷ counts) n =
    let e : (i + 1) + length counts ≡ i + length (m ∷ counts) = omega arith in
    ap (λ r. replicate m i ++ r) (repeated-append (i + 1) counts n) ∙ sym (append_assoc (replicate m i) (repeated_from (i + 1) counts) (replicate n ((i + 1) + length counts)))
    ∙ ap (λ j. replicate m i ++ repeated_from (i + 1) counts ++ replicate n j) e

pub map-replicate : {X Y : Type 0} (f : X → Y) (n : ℕ) (x : X) → map f (replicate n x) ≡ replicate n (f x)
map-replicate f zero x = refl
map-replicate f (suc n) x = ap (λ r. f x ∷ r) (map-replicate f n x)

-- the places of the first i counts
abbrev pub places_before : {X : Type 0} → (X → ℤ) → List X → ℕ → List ℕ
places_before value xs i = repeated_from 0 (magnitudes (map value (take i xs)))

pub places_more : {X : Type 0} (value : X → ℤ) (xs : List X) (i : ℕ) (x : X) → i < length xs → x ≡ get_or xs i x →
    places_before value xs (i + 1) ≡ places_before value xs i ++ replicate (unsigned_abs (value x)) i
places_more value xs i x h is =
    let before = magnitudes (map value (take i xs)) in
    let many : 0 + length before ≡ i = omega (arith, length-map (map value (take i xs)) unsigned_abs, length-map (take i xs) value, length-take-le i xs (omega arith)) in
    ap (λ ys. repeated_from 0 (magnitudes ys)) (map_more value xs i x h) ∙ ap (repeated_from 0) (map-append unsigned_abs (map value (take i xs)) (value (get_or xs i x) ∷ []))
    ∙ ap (λ y. repeated_from 0 (before ++ unsigned_abs (value y) ∷ [])) (sym is) ∙ repeated-append 0 before (unsigned_abs (value x))
    ∙ ap (λ j. repeated_from 0 before ++ replicate (unsigned_abs (value x)) j) many

pub indices_more : {X : Type 0} (value : X → ℤ) (xs : List X) (i : ℕ) (x : X) (times : ℕ) (z : ℤ) (old new : List ℤ) → i < length xs → x ≡ get_or xs i x → times ≡ unsigned_abs (value x) → z ≡ pos i →
    old ≡ map (λ k. pos k) (places_before value xs i) → new ≡ old ++ replicate times z → new ≡ map (λ k. pos k) (places_before value xs (i + 1))
indices_more value xs i x times z old new h is et ez before more =
    more ∙ ap (λ r. r ++ replicate times z) before ∙ ap (λ n. map (λ k. pos k) (places_before value xs i) ++ replicate n z) et
    ∙ ap (λ w. map (λ k. pos k) (places_before value xs i) ++ replicate (unsigned_abs (value x)) w) ez
    ∙ ap (λ r. map (λ k. pos k) (places_before value xs i) ++ r) (sym (map-replicate (λ k. pos k) (unsigned_abs (value x)) i))
    ∙ sym (map-append (λ k. pos k) (places_before value xs i) (replicate (unsigned_abs (value x)) i)) ∙ ap (map (λ k. pos k)) (sym (places_more value xs i x h is))

pub places_all : {X : Type 0} (value : X → ℤ) (xs : List X) (i : ℕ) → length xs ≤ i → places_before value xs i ≡ repeated_from 0 (magnitudes (map value xs))
places_all value xs i h = ap (λ ys. repeated_from 0 (magnitudes (map value ys))) (take_all i xs h)

-- a sum so far
pub sum_more : {X : Type 0} (value : X → ℤ) (xs : List X) (i : ℕ) (x : X) → i < length xs → x ≡ get_or xs i x → sum (magnitudes (map value (take (i + 1) xs))) ≡ sum (magnitudes (map value (take i xs))) + unsigned_abs (value x)
sum_more value xs i x h is =
    let before = magnitudes (map value (take i xs)) in
    let last : 0 + unsigned_abs (value x) ≡ unsigned_abs (value x) = omega arith in
    ap (λ ys. sum (magnitudes ys)) (map_more value xs i x h) ∙ ap sum (map-append unsigned_abs (map value (take i xs)) (value (get_or xs i x) ∷ []))
    ∙ ap (λ y. sum (before ++ unsigned_abs (value y) ∷ [])) (sym is) ∙ sum_by-append (λ (x : ℕ). x) before (unsigned_abs (value x) ∷ []) ∙ ap (λ n. sum before + n) last

pub total_is : (zs : List ℤ) (total : ℕ) → IsTotal zs total → total ≤ 4194304 → total ≡ length (repeated_from 0 (magnitudes zs))
total_is zs total is few = omega (arith, is.summed, length-repeated 0 (magnitudes zs))

pub total_beyond : (zs : List ℤ) (total : ℕ) → IsTotal zs total → 4194304 < total → 4194304 < length (repeated_from 0 (magnitudes zs))
total_beyond zs total is many = omega (arith, is.summed, length-repeated 0 (magnitudes zs))

pub numbered_beyond : (ks : List ℕ) → 4194304 < length ks → limited (numbered ks) ≡ Err Limit
numbered_beyond ks many = many_beyond (numbered ks) (omega (arith, length-map ks (λ k. number (pos k))))
