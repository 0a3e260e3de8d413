-- The greatest of numbers, in a list and in columns.
use Rattle.std.proofs.Common.{◌≡◌, ℕ, ◌+◌, ◌*◌, ◌<◌, max, List, [], ◌∷◌, ◌++◌, length, map, take, drop, get_or, fold, replicate, refl, sym, ap, ◌∙◌, arith, add-one}
use Prim.Native.Nat.{zero, suc}
use Rattle.std.proofs.Math.ListN.{set}
use Rattle.std.proofs.lemmas.List.{take_more, take_at, map-append}
use Rattle.std.proofs.lemmas.List.Sums.{fold_push, sum_by_push}
use Rattle.std.specs.List.{range_with_len, sum_by}
use Rattle.j_display.specs.Rows.{pieces, wider, greatest}
use Rattle.j_display.proofs.Widening.{pieces-push}

greatest-push : (ns : List ℕ) (n : ℕ) → greatest (ns ++ n ∷ []) ≡ max (greatest ns) n
greatest-push [] n = omega arith
greatest-push (m ∷ ns) n = omega (arith, greatest-push ns n)

pub greatest_more : (ns : List ℕ) (i most n : ℕ) → i < length ns → most ≡ greatest (take i ns) → n ≡ max most (get_or ns i 0) → n ≡ greatest (take (i + 1) ns)
greatest_more ns i most n h e en = en ∙ ap (λ m. max m (get_or ns i 0)) e ∙ sym (ap greatest (take_more ns i 0 h) ∙ greatest-push (take i ns) (get_or ns i 0))

-- columns of which the first j are as wide as a line needs
abbrev pub widened_by : ℕ → List ℕ → List ℕ → List ℕ
widened_by zero ws vs = ws
widened_by (suc j) [] vs = []
widened_by (suc j) (w ∷ ws) [] = w ∷ ws
widened_by (suc j) (w ∷ ws) (v ∷ vs) = max w v ∷ widened_by j ws vs

widened_by_at : (j : ℕ) (ws vs : List ℕ) (d : ℕ) → get_or (widened_by j ws vs) j d ≡ get_or ws j d
widened_by_at zero ws vs d = refl
widened_by_at (suc j) [] vs d = refl
widened_by_at (suc j) (w ∷ ws) [] d = refl
widened_by_at (suc j) (w ∷ ws) (v ∷ vs) d = widened_by_at j ws vs d

widened_by_next : (j : ℕ) (ws vs : List ℕ) → j < length ws → j < length vs → widened_by (suc j) ws vs ≡ set (widened_by j ws vs) j (max (get_or ws j 0) (get_or vs j 0))
widened_by_next j [] vs h g = absurd (omega arith)
widened_by_next j (w ∷ ws) [] h g = absurd (omega arith)
widened_by_next zero (w ∷ ws) (v ∷ vs) h g = refl
widened_by_next (suc j) (w ∷ ws) (v ∷ vs) h g = ap (λ r. max w v ∷ r) (widened_by_next j ws vs (omega arith) (omega arith))

pub widened_more : (now ws vs : List ℕ) (j value : ℕ) → length ws ≡ length vs → j < length ws → now ≡ widened_by j ws vs → value ≡ max (get_or now j 0) (get_or vs j 0) → set now j value ≡ widened_by (j + 1) ws vs
widened_more now ws vs j value same h e ev =
    ap (set now j) (ev ∙ ap (λ r. max (get_or r j 0) (get_or vs j 0)) e ∙ ap (λ w. max w (get_or vs j 0)) (widened_by_at j ws vs 0))
    ∙ ap (λ r. set r j (max (get_or ws j 0) (get_or vs j 0))) e
    ∙ sym (ap (λ k. widened_by k ws vs) (add-one j) ∙ widened_by_next j ws vs h (omega arith))

widened_all : (ws vs : List ℕ) → length ws ≡ length vs → widened_by (length ws) ws vs ≡ wider ws vs
widened_all [] vs h = refl
widened_all (w ∷ ws) [] h = absurd (omega arith)
widened_all (w ∷ ws) (v ∷ vs) h = ap (λ r. max w v ∷ r) (widened_all ws vs (omega arith))

pub widened_done : (now ws vs : List ℕ) (j : ℕ) → length ws ≡ length vs → j ≡ length ws → now ≡ widened_by j ws vs → now ≡ wider ws vs
widened_done now ws vs j same e en = en ∙ ap (λ k. widened_by k ws vs) e ∙ widened_all ws vs same

-- one more line
pub fold_more : (n k : ℕ) (vs : List ℕ) → fold wider (replicate n 0) (pieces (k + 1) n vs) ≡ wider (fold wider (replicate n 0) (pieces k n vs)) (take n (drop (k * n) vs))
fold_more n k vs = ap (fold wider (replicate n 0)) (pieces-push k n vs) ∙ fold_push wider (replicate n 0) (pieces k n vs) (take n (drop (k * n) vs))

pub heights_more : (n k : ℕ) (hs : List ℕ) → map greatest (pieces (k + 1) n hs) ≡ map greatest (pieces k n hs) ++ greatest (take n (drop (k * n) hs)) ∷ []
heights_more n k hs = ap (map greatest) (pieces-push k n hs) ∙ map-append greatest (pieces k n hs) (take n (drop (k * n) hs) ∷ [])

-- one more line, in a buffer that was lent
pub widest_more : (n k m len : ℕ) (vs now lent new : List ℕ) → lent ≡ now → now ≡ fold wider (replicate n 0) (pieces k n vs) → length new ≡ len → m ≡ n → new ≡ wider lent (take m (drop (k * n) vs)) →
    take len (new ++ drop (length new) now) ≡ fold wider (replicate n 0) (pieces (k + 1) n vs)
widest_more n k m len vs now lent new el en em e h =
    take_at new (drop (length new) now) len em ∙ h ∙ ap (λ ws. wider ws (take m (drop (k * n) vs))) (el ∙ en) ∙ ap (λ i. wider (fold wider (replicate n 0) (pieces k n vs)) (take i (drop (k * n) vs))) e ∙ sym (fold_more n k vs)

pub range-push : (a n : ℕ) → range_with_len a (n + 1) ≡ range_with_len a n ++ (a + n) ∷ []
range-push a zero = ap (λ i. i ∷ []) (let e : a ≡ a + 0 = omega arith in e)
range-push a (suc n) =
    let e : suc n + 1 ≡ suc (n + 1) = omega arith in
    let f : (a + 1) + n ≡ a + suc n = omega arith in
    ap (range_with_len a) e ∙ ap (λ r. a ∷ r) (range-push (a + 1) n) ∙ ap (λ i. (a ∷ range_with_len (a + 1) n) ++ i ∷ []) f

pub sum_more : (f : ℕ → ℕ) (k : ℕ) → sum_by f (range_with_len 0 (k + 1)) ≡ sum_by f (range_with_len 0 k) + f k
sum_more f k = ap (sum_by f) (range-push 0 k) ∙ sum_by_push f (range_with_len 0 k) (0 + k) ∙ ap (λ i. sum_by f (range_with_len 0 k) + f i) (let e : 0 + k ≡ k = omega arith in e)
