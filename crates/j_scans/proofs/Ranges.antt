-- Places of items, and the runs of infixes.
use Rattle.std.proofs.Common.{◌≡◌, ◌<◌, ◌≤◌, ◌<ℤ◌, ◌+◌, ◌-◌, ◌*◌, ◌/◌, ℕ, ℤ, pos, negsuc, min, List, [], ◌∷◌, ◌++◌, length, map, take, drop, get_or, arith, refl, ap, ◌∙◌}
use Prim.Native.Nat.{zero, suc}
use Rattle.std.specs.List.{All, range_with_len}
use Rattle.std.proofs.lemmas.Int.{ints}
use Rattle.std.proofs.lemmas.Nat.{mul-le, div-add-mod'}
use Rattle.std.proofs.lemmas.List.{length-map, get_or-map}
use Rattle.std.proofs.lemmas.List.FromFn.{length-range_with_len, get_or-range_with_len, length-map-range_with_len, get_or-map-range_with_len}
use Rattle.j_scans.specs.declared.copying.Span.{Span}
use Rattle.j_scans.specs.Pieced.{places}
use Rattle.j_scans.specs.Scans.{Run, within, without, run_count, run_at, runs, prefix_places, suffix_places, infix_places, outfix_places}
use Rattle.j_scans.specs.Spans.{places_in, places_out}

-- the first places, and the others
pub take_range : (a n k m : ℕ) → m ≡ min k n → take k (range_with_len a n) ≡ range_with_len a m
take_range a n zero m e = let none : 0 ≡ m = omega arith in ap (range_with_len a) none
take_range a zero (suc k) m e = let none : 0 ≡ m = omega arith in ap (range_with_len a) none
take_range a (suc n) (suc k) zero e = absurd (omega arith)
take_range a (suc n) (suc k) (suc m) e = ap (λ r. a ∷ r) (take_range (a + 1) n k m (omega arith))

pub drop_range : (a n k : ℕ) → drop k (range_with_len a n) ≡ range_with_len (a + k) (n - k)
drop_range a n zero =
    let same : a ≡ a + 0 = omega arith in
    let all : n ≡ n - 0 = omega arith in
    ap (λ j. range_with_len j n) same ∙ ap (range_with_len (a + 0)) all
drop_range a zero (suc k) = let none : 0 ≡ 0 - suc k = omega arith in ap (range_with_len (a + suc k)) none
drop_range a (suc n) (suc k) =
    let next : a + 1 + k ≡ a + suc k = omega arith in
    let rest : n - k ≡ suc n - suc k = omega arith in
    drop_range (a + 1) n k ∙ ap (λ j. range_with_len j (n - k)) next ∙ ap (range_with_len (a + suc k)) rest

range_as : (a b n : ℕ) → (0 < n → a ≡ b) → range_with_len a n ≡ range_with_len b n
range_as a b zero h = refl
range_as a b (suc n) h = ap (λ j. range_with_len j (suc n)) (h (omega arith))

pub All-range : (a m n : ℕ) → a + m ≤ n → All (λ k. k < n) (range_with_len a m)
All-range a m n h k d g = omega (arith, length-range_with_len a m, get_or-range_with_len a m k d (let f : k < m = omega (arith, length-range_with_len a m) in f))

-- what is within a run, and without it
pub within_is : (t start count : ℕ) (s : Span) → s.start ≡ start → s.end ≡ min (start + count) t → s.start ≤ s.end → take count (drop start (places t)) ≡ places_in s
within_is t start count s a b h =
    let same : 0 + start ≡ s.start = omega arith in
    ap (take count) (drop_range 0 t start) ∙ take_range (0 + start) (t - start) count (s.end - s.start) (omega arith) ∙ ap (λ j. range_with_len j (s.end - s.start)) same

pub without_is : (t start count : ℕ) (s : Span) → s.start ≡ start → s.end ≡ min (start + count) t → s.start ≤ s.end → take start (places t) ++ drop (start + count) (places t) ≡ places_out t s
without_is t start count s a b h =
    let rest : t - (start + count) ≡ t - s.end = omega arith in
    ap (λ r. r ++ drop (start + count) (places t)) (take_range 0 t start s.start (omega arith))
    ∙ ap (λ r. range_with_len 0 s.start ++ r) (drop_range 0 t (start + count) ∙ range_as (0 + (start + count)) s.end (t - (start + count)) (λ g. omega arith) ∙ ap (range_with_len s.end) rest)

-- the number of pieces
pub prefix_many : (t : ℕ) → length (prefix_places t) ≡ t
prefix_many t = length-map-range_with_len (λ k. take k (places t)) 1 t

pub suffix_many : (t : ℕ) → length (suffix_places t) ≡ t
suffix_many t = length-map-range_with_len (λ k. drop k (places t)) 0 t

runs_many : (n : ℤ) (t : ℕ) → length (runs n t) ≡ run_count n t
runs_many n t = length-map-range_with_len (run_at n) 0 (run_count n t)

pub infix_many : (n : ℤ) (t : ℕ) → length (infix_places n t) ≡ run_count n t
infix_many n t = length-map (runs n t) (λ r. within r (places t)) ∙ runs_many n t

pub outfix_many : (n : ℤ) (t : ℕ) → length (outfix_places n t) ≡ run_count n t
outfix_many n t = length-map (runs n t) (λ r. without r (places t)) ∙ runs_many n t

-- piece k
pub prefix_at : (t k : ℕ) (s : Span) → k < t → s.start ≡ 0 → s.end ≡ k + 1 → get_or (prefix_places t) k [] ≡ places_in s
prefix_at t k s h a b =
    let next : 1 + k ≡ k + 1 = omega arith in
    let first : 0 ≡ s.start = omega arith in
    get_or-map-range_with_len (λ j. take j (places t)) 1 t k (k + 1) [] h next ∙ take_range 0 t (k + 1) (s.end - s.start) (omega arith) ∙ ap (λ j. range_with_len j (s.end - s.start)) first

pub suffix_at : (t k : ℕ) (s : Span) → k < t → s.start ≡ k → s.end ≡ t → get_or (suffix_places t) k [] ≡ places_in s
suffix_at t k s h a b =
    let own : 0 + k ≡ k = omega arith in
    let first : 0 + k ≡ s.start = omega arith in
    let rest : t - k ≡ s.end - s.start = omega arith in
    get_or-map-range_with_len (λ j. drop j (places t)) 0 t k k [] h own ∙ drop_range 0 t k ∙ ap (λ j. range_with_len j (t - k)) first ∙ ap (range_with_len s.start) rest

run_is : (f : Run → List ℕ) (n : ℤ) (t k : ℕ) → k < run_count n t → get_or (map f (runs n t)) k [] ≡ f (run_at n k)
run_is f n t k h =
    let own : 0 + k ≡ k = omega arith in
    get_or-map f (runs n t) k (run_at n k) [] (omega (arith, runs_many n t)) ∙ ap f (get_or-map-range_with_len (run_at n) 0 (run_count n t) k k (run_at n k) h own)

pub infix_at : (n : ℤ) (t k : ℕ) (s : Span) → k < run_count n t → s.start ≡ (run_at n k).start → s.end ≡ min ((run_at n k).start + (run_at n k).count) t → s.start ≤ s.end → get_or (infix_places n t) k [] ≡ places_in s
infix_at n t k s h a b g = run_is (λ r. within r (places t)) n t k h ∙ within_is t (run_at n k).start (run_at n k).count s a b g

pub outfix_at : (n : ℤ) (t k : ℕ) (s : Span) → k < run_count n t → s.start ≡ (run_at n k).start → s.end ≡ min ((run_at n k).start + (run_at n k).count) t → s.start ≤ s.end → get_or (outfix_places n t) k [] ≡ places_out t s
outfix_at n t k s h a b g = run_is (λ r. without r (places t)) n t k h ∙ without_is t (run_at n k).start (run_at n k).count s a b g

-- a run begins before the end
part_before : (t m e k : ℕ) → e + 1 ≡ m → k < (t + e) / m → k * m ≤ t
part_before t m e k is h =
    let more : k + 1 ≤ (t + e) / m = omega arith in
    let same : m ≤ m = omega arith in
    omega (arith, mul-le (k + 1) m ((t + e) / m) m more same, div-add-mod' (t + e) m)

pub start_before : (n : ℤ) (t k : ℕ) → k < run_count n t → (run_at n k).start ≤ t
start_before (pos m) t k h = omega arith
start_before (negsuc j) t k h = let one : j + 1 ≡ suc j = omega arith in part_before t (suc j) j k one h

pub product_before : (n : ℤ) (t k size : ℕ) → k < run_count n t → size ≡ (run_at n 0).count → n <ℤ pos 0 → k * size ≤ t
product_before (pos m) t k size h e g = absurd (omega (arith, ints))
product_before (negsuc j) t k size h e g = omega (arith, start_before (negsuc j) t k h, ap (λ i. k * i) e)
