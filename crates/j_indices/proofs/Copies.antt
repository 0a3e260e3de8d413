-- Items that counts copy.
use Rattle.std.proofs.Common.{◌≡◌, ◌<◌, ◌≤◌, ◌+◌, ◌*◌, ℕ, ℤ, Bool, true, false, nat_eq, cond, min, unsigned_abs, List, [], ◌∷◌, ◌++◌, length, map, take, drop, get_or, replicate, sum, arith, refl, sym, ap, ◌∙◌, Result, Ok, Err}
use Prim.Native.Nat.{zero, suc}
use Rattle.std.specs.List.{All}
use Rattle.std.proofs.lemmas.Bool.{eqb-true, eq-eqb}
use Rattle.std.proofs.lemmas.List.{map-append, length-map, get_or-map}
use Rattle.std.proofs.lemmas.List.FromFn.{length-map-range_with_len, map-range_with_len_more}
use Rattle.std.proofs.lemmas.List.Sums.{sum_by-append}
use Rattle.std.proofs.lemmas.List.Elements.{All-nil, All-cons, All-append}
use Rattle.j_definitions.specs.Array.{Array, product}
use Rattle.j_definitions.specs.Limits.{limited}
use Rattle.j_definitions.proofs.Limits.{limited-Err}
use Rattle.j_definitions.specs.declared.Fault.{Fault}
use Rattle.j_definitions.specs.declared.Fault.TheVariants.{Length, Limit}
use Rattle.std.proofs.lemmas.List.Elements.{All-head, All-tail}
use Rattle.j_indices.specs.Numbers.{magnitudes}
use Rattle.j_indices.specs.Counting.{repeated_from}
use Rattle.j_indices.specs.Selecting.{serving, paired, counts_served, pairs_copied, copied}
use Rattle.j_indices.proofs.Counts.{length-repeated, repeated-append, map-replicate}

abbrev of_equal : ℕ → Bool → Result ℕ Fault
of_equal n b = cond b (Ok n) (Err Length)

pub pairs_equal : (m n : ℕ) (s t : List ℕ) → m ≡ n → paired (m ∷ s) (n ∷ t) ≡ Ok n
pairs_equal m n s t e = ap (of_equal n) (eq-eqb m n e)

not_equal : (m n : ℕ) (b : Bool) → nat_eq m n ≡ b → (m ≡ n → ⊥) → of_equal n b ≡ Err Length
not_equal m n true e h = absurd (h (eqb-true m n e))
not_equal m n false e h = refl

pub pairs_unequal : (m n : ℕ) (s t : List ℕ) → (m ≡ n → ⊥) → paired (m ∷ s) (n ∷ t) ≡ Err Length
pairs_unequal m n s t h = not_equal m n (nat_eq m n) refl h

of_pair : (m n k : ℕ) (b : Bool) → nat_eq m n ≡ b → of_equal n b ≡ Ok k → (m ≡ k) × (n ≡ k)
of_pair m n k true e h = let same : m ≡ n = eqb-true m n e in let last : n ≡ k = cc in (same ∙ last, last)
of_pair m n k false e h = cc

one_axis : (j n : ℕ) → j < n → j < n * 1
one_axis j n h = omega arith

-- the places that the pairs have are within
pub pairs_left : (s t : List ℕ) (n k : ℕ) → length s ≤ 1 → paired s t ≡ Ok n → k < n → serving s k < product s
pairs_left [] t n k few e h = omega arith
pairs_left (m ∷ []) [] n k few e h = let same : m ≡ n = cc in one_axis k m (omega arith)
pairs_left (m ∷ []) (l ∷ t) n k few e h = let same = of_pair m l n (nat_eq m l) refl e in one_axis k m (omega (arith, same.0))
pairs_left (m ∷ l ∷ s) t n k few e h = absurd (omega arith)

pub pairs_right : (s t : List ℕ) (n k : ℕ) → paired s t ≡ Ok n → k < n → serving t k < product (take 1 t)
pairs_right s [] n k e h = omega arith
pairs_right [] (l ∷ t) n k e h = let same : l ≡ n = cc in one_axis k l (omega arith)
pairs_right (m ∷ s) (l ∷ t) n k e h = let same = of_pair m l n (nat_eq m l) refl e in one_axis k l (omega (arith, same.1))

pub served_more : (s counts : List ℕ) (k : ℕ) → counts_served s counts (k + 1) ≡ counts_served s counts k ++ get_or counts (serving s k) 0 ∷ []
served_more s counts k = map-range_with_len_more (λ j. get_or counts (serving s j) 0) 0 k k (omega arith)

pub magnitude_at : {X : Type 0} (value : X → ℤ) (xs : List X) (j : ℕ) (x : X) → j < length xs → x ≡ get_or xs j x → get_or (magnitudes (map value xs)) j 0 ≡ unsigned_abs (value x)
magnitude_at value xs j x h is =
    let within : j < length (map value xs) = omega (arith, length-map xs value) in
    get_or-map unsigned_abs (map value xs) j (value x) 0 within ∙ ap unsigned_abs (get_or-map value xs j x (value x) h) ∙ ap (λ y. unsigned_abs (value y)) (sym is)

pub total_more : {X : Type 0} (value : X → ℤ) (s : List ℕ) (xs : List X) (k j : ℕ) (x : X) → j ≡ serving s k → j < length xs → x ≡ get_or xs j x →
    sum (counts_served s (magnitudes (map value xs)) (k + 1)) ≡ sum (counts_served s (magnitudes (map value xs)) k) + unsigned_abs (value x)
total_more value s xs k j x e h is =
    let counts = magnitudes (map value xs) in
    let last : 0 + unsigned_abs (value x) ≡ unsigned_abs (value x) = omega arith in
    ap sum (served_more s counts k) ∙ ap (λ i. sum (counts_served s counts k ++ get_or counts i 0 ∷ [])) (sym e) ∙ ap (λ n. sum (counts_served s counts k ++ n ∷ [])) (magnitude_at value xs j x h is)
    ∙ sum_by-append (λ (n : ℕ). n) (counts_served s counts k) (unsigned_abs (value x) ∷ []) ∙ ap (λ n. sum (counts_served s counts k) + n) last

pub pairs_more : (s counts : List ℕ) (k : ℕ) → pairs_copied s counts (k + 1) ≡ pairs_copied s counts k ++ replicate (get_or counts (serving s k) 0) k
pairs_more s counts k =
    let many : 0 + length (counts_served s counts k) ≡ k = omega (arith, length-map-range_with_len (λ j. get_or counts (serving s j) 0) 0 k) in
    ap (repeated_from 0) (served_more s counts k) ∙ repeated-append 0 (counts_served s counts k) (get_or counts (serving s k) 0)
    ∙ ap (λ j. pairs_copied s counts k ++ replicate (get_or counts (serving s k) 0) j) many

-- one more pair
pub copies_more : {X : Type 0} (value : X → ℤ) (s t : List ℕ) (xs : List X) (k j : ℕ) (x : X) (times place : ℕ) (old new : List ℕ) → j ≡ serving s k → j < length xs → x ≡ get_or xs j x →
    times ≡ unsigned_abs (value x) → place ≡ serving t k → old ≡ map (serving t) (pairs_copied s (magnitudes (map value xs)) k) → new ≡ old ++ replicate times place →
    new ≡ map (serving t) (pairs_copied s (magnitudes (map value xs)) (k + 1))
copies_more value s t xs k j x times place old new e h is et ep before more =
    let counts = magnitudes (map value xs) in
    let n = get_or counts (serving s k) 0 in
    let same : times ≡ n = et ∙ sym (magnitude_at value xs j x h is) ∙ ap (λ i. get_or counts i 0) e in
    more ∙ ap (λ r. r ++ replicate times place) before ∙ ap (λ m. map (serving t) (pairs_copied s counts k) ++ replicate m place) same
    ∙ ap (λ p. map (serving t) (pairs_copied s counts k) ++ replicate n p) ep ∙ ap (λ r. map (serving t) (pairs_copied s counts k) ++ r) (sym (map-replicate (serving t) n k))
    ∙ sym (map-append (serving t) (pairs_copied s counts k) (replicate n k)) ∙ ap (map (serving t)) (sym (pairs_more s counts k))

all_replicate : (P : ℕ → Type 0) (n x : ℕ) → P x → All P (replicate n x)
all_replicate P zero x h = All-nil P
all_replicate P (suc n) x h = All-cons P x (replicate n x) h (all_replicate P n x h)

repeated_within : (i : ℕ) (counts : List ℕ) → All (λ j. j < i + length counts) (repeated_from i counts)
repeated_within i [] = All-nil (λ j. j < i + 0)
repeated_within i (n ∷ counts) =
    All-append (λ j. j < i + length (n ∷ counts)) (replicate n i) (repeated_from (i + 1) counts) (all_replicate (λ j. j < i + length (n ∷ counts)) n i (omega arith))
    (λ k d h. omega (arith, repeated_within (i + 1) counts k d h))

all_map : {X Y : Type 0} (P : Y → Type 0) (Q : X → Type 0) (f : X → Y) → ((x : X) → Q x → P (f x)) → (xs : List X) → All Q xs → All P (map f xs)
all_map P Q f h [] all = All-nil P
all_map P Q f h (x ∷ xs) all = All-cons P (f x) (map f xs) (h x (All-head Q x xs all)) (all_map P Q f h xs (All-tail Q x xs all))

pub copies_within : (s t counts : List ℕ) (n : ℕ) → paired s t ≡ Ok n → All (λ k. k < product (take 1 t)) (map (serving t) (pairs_copied s counts n))
copies_within s t counts n e =
    all_map (λ k. k < product (take 1 t)) (λ k. k < n) (serving t) (λ k h. pairs_right s t n k e h) (pairs_copied s counts n)
    (λ k d h. omega (arith, repeated_within 0 (counts_served s counts n) k d h, length-map-range_with_len (λ j. get_or counts (serving s j) 0) 0 n))

pub copied_many : (s counts : List ℕ) (n total : ℕ) → total ≡ min (sum (counts_served s counts n)) 18446744073709551615 → total ≤ 4194304 → total ≡ length (pairs_copied s counts n)
copied_many s counts n total e few = omega (arith, length-repeated 0 (counts_served s counts n))

pub copied_beyond : (s counts : List ℕ) (n total : ℕ) (y : Array) → total ≡ min (sum (counts_served s counts n)) 18446744073709551615 → 4194304 < total → limited (copied s counts y n) ≡ Err Limit
copied_beyond s counts n total y e many =
    limited-Err (copied s counts y n)
    (λ w. let first : length (pairs_copied s counts n) ≤ 4194304 = All-head (λ m. m ≤ 4194304) (length (pairs_copied s counts n)) (drop 1 y.shape) w.axes in omega (arith, length-repeated 0 (counts_served s counts n)))
