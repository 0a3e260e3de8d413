-- The rows of an oblique line follow one another.
use Rattle.std.proofs.Common.{◌≡◌, ◌<◌, ◌≤◌, ◌+◌, ◌-◌, ◌*◌, ℕ, Bool, true, false, ◌&&◌, ◌||◌, nat_eq, nat_le, nat_lt, min, cond, List, [], ◌∷◌, ◌++◌, length, map, take, drop, get_or, arith, refl, sym, ap, ◌∙◌, subst, append-nil, mul-one}
use Prim.Native.Nat.{zero, suc}
use Rattle.std.specs.List.{All, filter, range_with_len}
use Rattle.std.proofs.lemmas.Bool.{le-leb, lt-leb, lt-ltb, le-ltb}
use Rattle.std.proofs.Math.Nat.{mul_comm}
use Rattle.std.proofs.lemmas.Nat.{mul-add-lt}
use Rattle.std.proofs.lemmas.List.{get_or-map, length-map}
use Rattle.std.proofs.lemmas.List.Elements.{All-push, filter-append}
use Rattle.std.proofs.lemmas.List.FromFn.{map-range_with_len_more, length-map-range_with_len, get_or-map-range_with_len}
use Rattle.j_definitions.specs.Array.{Array, product, tally}
use Rattle.j_search.specs.Matching.{places}
use Rattle.j_search.proofs.Picks.{keep, filter_none}
use Rattle.j_cuts_key.specs.Obliques.{rows, columns, rows_on, line, line_count, lines}

range_split : (a m n b t : ℕ) → a + m ≡ b → m + n ≡ t → range_with_len a t ≡ range_with_len a m ++ range_with_len b n
range_split a zero n b t e h =
    let same : a ≡ b = omega arith in
    let all : t ≡ n = omega arith in
    ap (range_with_len a) all ∙ ap (λ j. range_with_len j n) same
range_split a (suc m) n b zero e h = absurd (omega arith)
range_split a (suc m) n b (suc t) e h = ap (λ r. a ∷ r) (range_split (a + 1) m n b t (omega arith) (omega arith))

filter_all : (p : ℕ → Bool) (a n : ℕ) → ((k : ℕ) → a ≤ k → k < a + n → p k ≡ true) → filter p (range_with_len a n) ≡ range_with_len a n
filter_all p a zero h = refl
filter_all p a (suc n) h =
    ap (λ b. keep b a (filter p (range_with_len (a + 1) n))) (h a (omega arith) (omega arith)) ∙ ap (λ r. a ∷ r) (filter_all p (a + 1) n (λ k l u. h k (omega arith) (omega arith)))

-- where the places from lo up to hi pass, and no others
filter_between : (p : ℕ → Bool) (lo hi t : ℕ) → lo ≤ hi → hi ≤ t → ((k : ℕ) → k < lo → p k ≡ false) → ((k : ℕ) → lo ≤ k → k < hi → p k ≡ true) → ((k : ℕ) → hi ≤ k → k < t → p k ≡ false) →
    filter p (range_with_len 0 t) ≡ range_with_len lo (hi - lo)
filter_between p lo hi t h g below here above =
    ap (filter p) (range_split 0 lo (t - lo) lo t (omega arith) (omega arith)) ∙ filter-append p (range_with_len 0 lo) (range_with_len lo (t - lo))
    ∙ ap (λ r. r ++ filter p (range_with_len lo (t - lo))) (filter_none p 0 lo (λ k l u. below k (omega arith)))
    ∙ ap (filter p) (range_split lo (hi - lo) (t - hi) hi (t - lo) (omega arith) (omega arith)) ∙ filter-append p (range_with_len lo (hi - lo)) (range_with_len hi (t - hi))
    ∙ ap (λ r. r ++ filter p (range_with_len hi (t - hi))) (filter_all p lo (hi - lo) (λ k l u. here k l (omega arith)))
    ∙ ap (λ r. range_with_len lo (hi - lo) ++ r) (filter_none p hi (t - hi) (λ k l u. above k l (omega arith)))
    ∙ append-nil (range_with_len lo (hi - lo))

and_not : (b : Bool) → (b && false) ≡ false
and_not true = refl
and_not false = refl

both_axes : (r c n : ℕ) (a b : Bool) → nat_eq r 0 ≡ a → nat_eq c 0 ≡ b → n < (cond (a || b) 0 (r + c - 1)) → n < r + c - 1
both_axes r c n true b e f h = absurd (omega arith)
both_axes r c n false true e f h = absurd (omega arith)
both_axes r c n false false e f h = h

pub sum_below : (r c n : ℕ) → n < line_count r c → n < r + c - 1
sum_below r c n h = both_axes r c n (nat_eq r 0) (nat_eq c 0) refl refl h

some_rows : (c n : ℕ) → n < line_count 0 c → 0 < 0
some_rows c n h = absurd (omega arith)

none_there : (a : Bool) (n m : ℕ) → n < (cond (a || true) 0 m) → 0 < 0
none_there true n m h = absurd (omega arith)
none_there false n m h = absurd (omega arith)

no_columns : (r n : ℕ) → n < line_count r 0 → 0 < 0
no_columns r n h = none_there (nat_eq r 0) n (r + 0 - 1) h

pub rows_there : (r c n : ℕ) → n < line_count r c → 0 < r
rows_there zero c n h = some_rows c n h
rows_there (suc r) c n h = omega arith

pub columns_there : (r c n : ℕ) → n < line_count r c → 0 < c
columns_there r zero n h = no_columns r n h
columns_there r (suc c) n h = omega arith

-- the rows on a line
rows_are : (r c n lo hi : ℕ) → n < line_count r c → lo ≡ n + 1 - c → hi ≡ min r (n + 1) → rows_on r c n ≡ range_with_len lo (hi - lo)
rows_are r c n lo hi h e g =
    let sum : n < r + c - 1 = sum_below r c n h in
    let some : 0 < r = rows_there r c n h in
    let wide : 0 < c = columns_there r c n h in
    filter_between (λ i. nat_le i n && nat_lt (n - i) c) lo hi r (omega arith) (omega arith)
    (λ k l. ap (λ b. nat_le k n && b) (le-ltb (n - k) c (omega arith)) ∙ and_not (nat_le k n))
    (λ k l u. ap (λ b. b && nat_lt (n - k) c) (le-leb k n (omega arith)) ∙ lt-ltb (n - k) c (omega arith))
    (λ k l u. ap (λ b. b && nat_lt (n - k) c) (lt-leb k n (omega arith)))

pub line_is : (r c n lo hi : ℕ) → n < line_count r c → lo ≡ n + 1 - c → hi ≡ min r (n + 1) → map (λ i. i * c + (n - i)) (range_with_len lo (hi - lo)) ≡ line r c n
line_is r c n lo hi h e g = ap (map (λ i. i * c + (n - i))) (sym (rows_are r c n lo hi h e g))

pub line_order : (r c n lo hi : ℕ) → n < line_count r c → lo ≡ n + 1 - c → hi ≡ min r (n + 1) → lo ≤ hi
line_order r c n lo hi h e g =
    let sum : n < r + c - 1 = sum_below r c n h in
    let some : 0 < r = rows_there r c n h in
    omega arith

-- one row more
pub line_more : (c n lo i : ℕ) (old new : List ℕ) → lo ≤ i → old ≡ map (λ j. j * c + (n - j)) (range_with_len lo (i - lo)) → new ≡ old ++ (i * c + (n - i)) ∷ [] → new ≡ map (λ j. j * c + (n - j)) (range_with_len lo (i + 1 - lo))
line_more c n lo i old new h e pushed =
    let next : i - lo + 1 ≡ i + 1 - lo = omega arith in
    pushed ∙ ap (λ r. r ++ (i * c + (n - i)) ∷ []) e ∙ sym (map-range_with_len_more (λ j. j * c + (n - j)) lo (i - lo) i (omega arith)) ∙ ap (λ m. map (λ j. j * c + (n - j)) (range_with_len lo m)) next

-- a place on a line is within the noun
pub place_below : (r c n i : ℕ) → i < r → i ≤ n → n - i < c → i * c + (n - i) < r * c
place_below r c n i h g l = subst (λ (m : ℕ). i * c + (n - i) < m) (mul_comm c r) (mul-add-lt i c (n - i) r h l)

-- one place more that is within the noun
pub within_more : (r c n i : ℕ) (old new : List ℕ) → n < line_count r c → n + 1 - c ≤ i → i < r → i ≤ n → All (λ k. k < r * c) old → new ≡ old ++ (i * c + (n - i)) ∷ [] → All (λ k. k < r * c) new
within_more r c n i old new h low high before all pushed =
    let wide : 0 < c = columns_there r c n h in
    let last : n - i < c = omega arith in
    subst (λ (l : List ℕ). All (λ k. k < r * c) l) (sym pushed) (All-push (λ k. k < r * c) old (i * c + (n - i)) all (place_below r c n i high before last))

-- the places of all rows on a line
pub line_found : (r c n lo hi i : ℕ) (found : List ℕ) → n < line_count r c → lo ≡ n + 1 - c → hi ≡ min r (n + 1) → hi ≤ i → (lo ≤ hi → i ≤ hi) → found ≡ map (λ j. j * c + (n - j)) (range_with_len lo (i - lo)) → found ≡ line r c n
line_found r c n lo hi i found h e g past upto is =
    let same : i ≡ hi = omega (arith, upto (line_order r c n lo hi h e g)) in
    is ∙ ap (λ m. map (λ j. j * c + (n - j)) (range_with_len lo (m - lo))) same ∙ line_is r c n lo hi h e g

-- rows and columns are the first two axes
pub two_axes : (s : List ℕ) → product (take 2 s) ≡ rows s * columns s
two_axes [] = refl
two_axes (r ∷ []) = refl
two_axes (r ∷ c ∷ s) = ap (λ m. r * m) (mul-one c)

pub lines_many : (r c : ℕ) → length (lines r c) ≡ line_count r c
lines_many r c = length-map-range_with_len (line r c) 0 (line_count r c)

pub line_at : (r c k : ℕ) → k < line_count r c → get_or (lines r c) k [] ≡ line r c k
line_at r c k h = get_or-map-range_with_len (line r c) 0 (line_count r c) k k [] h (omega arith)
