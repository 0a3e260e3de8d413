-- The common shape of results.
use Rattle.std.proofs.Common.{◌≡◌, ◌<◌, ◌≤◌, ◌+◌, ◌-◌, ◌*◌, ℕ, max, List, [], ◌∷◌, ◌++◌, length, take, replicate, get_or, arith, rules, refl, sym, ap, ◌∙◌}
use Prim.Native.Nat.{zero, suc}
use Rattle.std.specs.List.{All, fold}
use Rattle.std.specs.Ordering.{ord_max, nat_cmp}
use Rattle.std.proofs.lemmas.List.{take_more, length-append, length-replicate, get_or_append_left, get_or-append_right, get_or-replicate, ext_get_or, take-replicate}
use Rattle.std.proofs.lemmas.List.Sums.{fold_push}
use Rattle.std.proofs.lemmas.List.Elements.{All-head, All-tail}
use Rattle.j_definitions.specs.Array.{Array, product}
use Rattle.j_rank.specs.Assembly.{with_rank, greatest_rank, greater_axes, greatest_axes, common_shape}
use Rattle.j_rank.specs.Places.{IsUnder}
use Rattle.j_rank.proofs.Products.{product_append}

abbrev longer : ℕ → Array → ℕ
longer n a = max n (length a.shape)

abbrev wider : ℕ → List ℕ → Array → List ℕ
wider n s a = greater_axes s (with_rank n a.shape)

pub greater_is : (m n : ℕ) → ord_max nat_cmp m n ≡ max m n
greater_is m n = search rules

-- one more result
pub greatest_rank_more : (xs : List Array) (i : ℕ) (d : Array) → i < length xs → greatest_rank (take (i + 1) xs) ≡ max (greatest_rank (take i xs)) (length (get_or xs i d).shape)
greatest_rank_more xs i d h = ap greatest_rank (take_more xs i d h) ∙ fold_push longer 0 (take i xs) (get_or xs i d)

pub greatest_axes_more : (n : ℕ) (xs : List Array) (i : ℕ) (d : Array) → i < length xs →
    greatest_axes n (take (i + 1) xs) ≡ greater_axes (greatest_axes n (take i xs)) (with_rank n (get_or xs i d).shape)
greatest_axes_more n xs i d h = ap (greatest_axes n) (take_more xs i d h) ∙ fold_push (wider n) (replicate n 0) (take i xs) (get_or xs i d)

-- no result has a greater rank
rank_grows : (n : ℕ) (xs : List Array) → n ≤ fold longer n xs
rank_grows n [] = omega arith
rank_grows n (a ∷ xs) = omega (arith, rank_grows (max n (length a.shape)) xs)

rank_each : (n : ℕ) (xs : List Array) (k : ℕ) (d : Array) → k < length xs → length (get_or xs k d).shape ≤ fold longer n xs
rank_each n [] k d h = absurd (omega arith)
rank_each n (a ∷ xs) zero d h = omega (arith, rank_grows (max n (length a.shape)) xs)
rank_each n (a ∷ xs) (suc k) d h = rank_each (max n (length a.shape)) xs k d (omega arith)

pub ranks_below : (xs : List Array) → All (λ a. length a.shape ≤ greatest_rank xs) xs
ranks_below xs = λ k d h. rank_each 0 xs k d h

-- shapes with leading axes
ones_many : (n : ℕ) → length (replicate {A = ℕ} n 1) ≡ n
ones_many n = length-replicate n 1

pub length-with_rank : (n : ℕ) (s : List ℕ) → length s ≤ n → length (with_rank n s) ≡ n
length-with_rank n s h = omega (arith, length-append (replicate (n - length s) 1) s, ones_many (n - length s))

product_ones : (n : ℕ) → product (replicate n 1) ≡ 1
product_ones zero = refl
product_ones (suc n) = omega (arith, product_ones n)

pub product-with_rank : (n : ℕ) (s : List ℕ) → product (with_rank n s) ≡ product s
product-with_rank n s = product_append (replicate (n - length s) 1) s ∙ omega (arith, ap (λ p. p * product s) (product_ones (n - length s)))

pub with_rank_leading : (n : ℕ) (s : List ℕ) (k : ℕ) → k < n - length s → get_or (with_rank n s) k 0 ≡ 1
with_rank_leading n s k h =
    get_or_append_left (replicate (n - length s) 1) s 0 k (omega (arith, ones_many (n - length s))) ∙ get_or-replicate (n - length s) k 1 0 h

pub with_rank_own : (n : ℕ) (s : List ℕ) (k : ℕ) → n - length s ≤ k → get_or (with_rank n s) k 0 ≡ get_or s (k - (n - length s)) 0
with_rank_own n s k h = get_or-append_right (replicate (n - length s) 1) s (n - length s) k 0 (ones_many (n - length s)) h

-- the greater length of each axis
pub length-greater_axes : (s t : List ℕ) → length s ≡ length t → length (greater_axes s t) ≡ length s
length-greater_axes [] t h = refl
length-greater_axes (m ∷ s) [] h = absurd (omega arith)
length-greater_axes (m ∷ s) (n ∷ t) h = omega (arith, length-greater_axes s t (omega arith))

get_or-greater_axes : (s t : List ℕ) (k : ℕ) → length s ≡ length t → k < length s → get_or (greater_axes s t) k 0 ≡ max (get_or s k 0) (get_or t k 0)
get_or-greater_axes [] t k h g = absurd (omega arith)
get_or-greater_axes (m ∷ s) [] k h g = absurd (omega arith)
get_or-greater_axes (m ∷ s) (n ∷ t) zero h g = refl
get_or-greater_axes (m ∷ s) (n ∷ t) (suc k) h g = get_or-greater_axes s t k (omega arith) (omega arith)

pub widened : (old axes new : List ℕ) → length axes ≤ length old → length new ≡ length old →
    ((k : ℕ) → k < length old → get_or new k 0 ≡ max (get_or old k 0) (get_or (with_rank (length old) axes) k 0)) → new ≡ greater_axes old (with_rank (length old) axes)
widened old axes new h e each =
    let led = with_rank (length old) axes in
    let many : length old ≡ length led = sym (length-with_rank (length old) axes h) in
    ext_get_or 0 new (greater_axes old led) (e ∙ sym (length-greater_axes old led many))
    (λ k g. each k (omega arith) ∙ sym (get_or-greater_axes old led k many (omega arith)))

under_self : (s : List ℕ) → IsUnder s s
under_self [] = tt
under_self (m ∷ s) = (omega arith, under_self s)

under_trans : (s t u : List ℕ) → IsUnder s t → IsUnder t u → IsUnder s u
under_trans [] [] u p q = q
under_trans [] (n ∷ t) u p q = absurd p
under_trans (m ∷ s) [] u p q = absurd p
under_trans (m ∷ s) (n ∷ t) [] p q = absurd q
under_trans (m ∷ s) (n ∷ t) (k ∷ u) p q = (omega (arith, p.0, q.0), under_trans s t u p.1 q.1)

under_left : (s t : List ℕ) → length s ≡ length t → IsUnder s (greater_axes s t)
under_left [] t h = tt
under_left (m ∷ s) [] h = absurd (omega arith)
under_left (m ∷ s) (n ∷ t) h = (omega arith, under_left s t (omega arith))

under_right : (s t : List ℕ) → length s ≡ length t → IsUnder t (greater_axes s t)
under_right [] [] h = tt
under_right [] (n ∷ t) h = absurd (omega arith)
under_right (m ∷ s) [] h = absurd (omega arith)
under_right (m ∷ s) (n ∷ t) h = (omega arith, under_right s t (omega arith))

abbrev Fit : ℕ → List Array → Type 0
Fit n xs = All (λ a. length a.shape ≤ n) xs

step_length : (n : ℕ) (s : List ℕ) (a : Array) → length s ≡ n → length a.shape ≤ n → length s ≡ length (with_rank n a.shape)
step_length n s a e h = e ∙ sym (length-with_rank n a.shape h)

fold_length : (n : ℕ) (s : List ℕ) (xs : List Array) → length s ≡ n → Fit n xs → length (fold (wider n) s xs) ≡ n
fold_length n s [] e h = e
fold_length n s (a ∷ xs) e h =
    let same = step_length n s a e (All-head (λ b. length b.shape ≤ n) a xs h) in
    fold_length n (wider n s a) xs (length-greater_axes s (with_rank n a.shape) same ∙ e) (All-tail (λ b. length b.shape ≤ n) a xs h)

axes_grow : (n : ℕ) (s : List ℕ) (xs : List Array) → length s ≡ n → Fit n xs → IsUnder s (fold (wider n) s xs)
axes_grow n s [] e h = under_self s
axes_grow n s (a ∷ xs) e h =
    let same = step_length n s a e (All-head (λ b. length b.shape ≤ n) a xs h) in
    under_trans s (wider n s a) (fold (wider n) (wider n s a) xs) (under_left s (with_rank n a.shape) same)
    (axes_grow n (wider n s a) xs (length-greater_axes s (with_rank n a.shape) same ∙ e) (All-tail (λ b. length b.shape ≤ n) a xs h))

axes_each : (n : ℕ) (s : List ℕ) (xs : List Array) (k : ℕ) (d : Array) → length s ≡ n → Fit n xs → k < length xs → IsUnder (with_rank n (get_or xs k d).shape) (fold (wider n) s xs)
axes_each n s [] k d e h g = absurd (omega arith)
axes_each n s (a ∷ xs) zero d e h g =
    let same = step_length n s a e (All-head (λ b. length b.shape ≤ n) a xs h) in
    under_trans (with_rank n a.shape) (wider n s a) (fold (wider n) (wider n s a) xs) (under_right s (with_rank n a.shape) same)
    (axes_grow n (wider n s a) xs (length-greater_axes s (with_rank n a.shape) same ∙ e) (All-tail (λ b. length b.shape ≤ n) a xs h))
axes_each n s (a ∷ xs) (suc k) d e h g =
    let same = step_length n s a e (All-head (λ b. length b.shape ≤ n) a xs h) in
    axes_each n (wider n s a) xs k d (length-greater_axes s (with_rank n a.shape) same ∙ e) (All-tail (λ b. length b.shape ≤ n) a xs h) (omega arith)

pub zeros_many : (n : ℕ) → length (replicate {A = ℕ} n 0) ≡ n
zeros_many n = length-replicate n 0

pub length-common_shape : (xs : List Array) → length (common_shape xs) ≡ greatest_rank xs
length-common_shape xs = fold_length (greatest_rank xs) (replicate (greatest_rank xs) 0) xs (zeros_many (greatest_rank xs)) (ranks_below xs)

-- each result lies within the common shape
pub all_under : (xs : List Array) → All (λ a. IsUnder (with_rank (length (common_shape xs)) a.shape) (common_shape xs)) xs
all_under xs = λ k d h.
    rw (length-common_shape xs)
    (axes_each (greatest_rank xs) (replicate (greatest_rank xs) 0) xs k d (zeros_many (greatest_rank xs)) (ranks_below xs) h)

pub with_rank_same : (n : ℕ) (s : List ℕ) → length s ≡ n → with_rank n s ≡ s
with_rank_same n s h = let none : n - length s ≡ 0 = omega arith in ap (λ k. replicate k 1 ++ s) none

-- no axis is longer than 0 at first
pub none_wide : (n : ℕ) → n ≤ 32 → take n (replicate {A = ℕ} 32 0) ≡ replicate n 0
none_wide n h = take-replicate n 32 0 h

pub rank_within : (xs : List Array) (i : ℕ) (a : Array) (axes : List ℕ) (n : ℕ) → i < length xs → a ≡ get_or xs i a → axes ≡ a.shape → n ≡ greatest_rank xs → length axes ≤ n
rank_within xs i a axes n h is e en = omega (arith, ranks_below xs i a h, ap (λ (b : Array). length b.shape) is, ap length e)
