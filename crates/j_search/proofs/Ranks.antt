-- Places that are in order: each is that before which as many come as its own place says.
use Rattle.std.proofs.Common.{◌≡◌, ◌<◌, ◌≤◌, ◌+◌, ℕ, Bool, true, false, cond, nat_eq, List, [], ◌∷◌, ◌++◌, length, map, get_or, arith, refl, sym, ap, ◌∙◌, subst, Result, Ok, Err, IfOk}
use Prim.Native.Nat.{zero, suc}
use Rattle.std.specs.List.{All, Contains, IsDistinct, count_by, range_with_len}
use Rattle.std.specs.List.Sorted.{IsPermutation, IsSortedBy, IsSorted}
use Rattle.std.specs.Cmp.{IsTotalOrder}
use Rattle.std.specs.declared.cmp.Ordering.{Ordering}
use Rattle.std.specs.declared.cmp.Ordering.TheVariants.{Less, Equal, Greater}
use Rattle.std.specs.Ordering.{is_lt, ordering_reverse, ordering_then, nat_cmp}
use Rattle.std.specs.Cmp.Lexicographic.{slice_cmp}
use Rattle.std.specs.Borrow.{Bor}
use Rattle.std.specs.declared.alloc.Global.{Global}
use Rattle.std.specs.declared.vec.Vec.{Vec}
use Rattle.std.specs.declared.cmp.Reverse.{Reverse}
use Rattle.std.proofs.lemmas.Cmp.{nat_eq_equiv, ranked as by_cmp, then_total, on_total, back_total, lists_total, nat_cmp_total}
use Rattle.std.proofs.lemmas.Bool.{eq-eqb, eqb-true, ne_eqb, false_from_ne_true, true≢false}
use Rattle.std.proofs.lemmas.List.{same_lists, get_or_default, get_or-map, length-map, map_push, map-id}
use Rattle.std.proofs.lemmas.List.Elements.{All-nil, All-cons, All-append, Contains-get_or, All-contains}
use Rattle.std.proofs.lemmas.List.FromFn.{length-range_with_len, get_or-range_with_len, get_or-map-range_with_len, length-map-range_with_len, map-range_with_len_more}
use Rattle.std.proofs.lemmas.List.Sorted.{length_permutation, sum_by-IsPermutation, Contains-permutation, All-permutation, sorted_far, ranks_by, IsPermutation-map}
use Rattle.std.proofs.lemmas.List.Sums.{sum_by-cons}
use Rattle.std.proofs.lemmas.Map.Keys.{apart_from_distinct, IsDistinct-from_apart, IsDistinct-IsPermutation}
use Rattle.j_search.specs.declared.order.Direction.{Direction}
use Rattle.j_search.specs.declared.order.Direction.TheVariants.{Up, Down}
use Rattle.j_search.specs.Matching.{places, first_of}
use Rattle.j_search.specs.Sought.{run}
use Rattle.j_search.specs.Graded.{run_cmp, run_order, places_with, pair_cmp, IsInOrder, IsKeyed, IsKeyedBack}
use Rattle.j_search.proofs.Picks.{first_at}

abbrev one_if : Bool → ℕ
one_if b = cond b 1 0

-- as many pass as the place says up to which all do
count_front : (p : ℕ → Bool) (xs : List ℕ) (r : ℕ) → r ≤ length xs → ((s : ℕ) → s < r → p (get_or xs s 0) ≡ true) → ((s : ℕ) → r ≤ s → s < length xs → p (get_or xs s 0) ≡ false) → count_by p xs ≡ r
count_front p [] r h front back = omega arith
count_front p (x ∷ xs) zero h front back =
    sum_by-cons (λ y. cond (p y) 1 0) x xs ∙ ap (λ b. one_if b + count_by p xs) (back 0 (omega arith) (omega arith))
    ∙ ap (λ n. 0 + n) (count_front p xs zero (omega arith) (λ s l. absurd (omega arith)) (λ s l u. back (suc s) (omega arith) (omega arith)))
count_front p (x ∷ xs) (suc r) h front back =
    let rest : count_by p xs ≡ r = count_front p xs r (omega arith) (λ s l. front (suc s) (omega arith)) (λ s l u. back (suc s) (omega arith) (omega arith)) in
    sum_by-cons (λ y. cond (p y) 1 0) x xs ∙ ap (λ b. one_if b + count_by p xs) (front 0 (omega arith)) ∙ ap (λ n. 1 + n) rest ∙ omega arith

zero_plus : (k : ℕ) → 0 + k ≡ k
zero_plus k = omega arith

all_from : (a n m : ℕ) → a + n ≤ m → All (λ k. k < m) (range_with_len a n)
all_from a zero m h = All-nil (λ k. k < m)
all_from a (suc n) m h = All-cons (λ k. k < m) a (range_with_len (a + 1) n) (omega arith) (all_from (a + 1) n m (omega arith))

pub All-places : (n : ℕ) → All (λ k. k < n) (places n)
All-places n = all_from 0 n n (omega arith)

module _ (R : ℕ → ℕ → Ordering) (o : IsTotalOrder R) (apart : (i j : ℕ) → R i j ≡ Equal → i ≡ j) (n : ℕ) (ks : List ℕ) (moved : IsPermutation (places n) ks) (sorted : IsSortedBy (λ x y. is_lt (R x y)) ks) where
  -- how many come before a place
  abbrev earlier : ℕ → ℕ
  earlier j = count_by (λ i. is_lt (R i j)) (places n)

  pub long : length ks ≡ n
  long = length_permutation (places n) ks moved ∙ length-range_with_len 0 n

  distinct : IsDistinct nat_eq ks
  distinct =
      IsDistinct-IsPermutation nat_eq nat_eq_equiv.symm (places n) ks moved
      (IsDistinct-from_apart nat_eq (places n) (λ i j d l u.
      let many : j < n = omega (arith, length-range_with_len 0 n) in
      ap (λ m. nat_eq m (get_or (places n) j d)) (get_or-range_with_len 0 n i d (omega arith)) ∙ ap (λ m. nat_eq (0 + i) m) (get_or-range_with_len 0 n j d many)
      ∙ ne_eqb (0 + i) (0 + j) (λ e. omega arith)))

  pub later : (r s : ℕ) → r ≤ s → s < n → is_lt (R (get_or ks s 0) (get_or ks r 0)) ≡ false
  later r s l u = sorted_far (λ x y. is_lt (R x y)) (ranks_by o (λ x. x)) ks sorted r s 0 l (omega (arith, long))

  differ : (r s : ℕ) → r < s → s < n → get_or ks r 0 ≡ get_or ks s 0 → ⊥
  differ r s l u e = true≢false (sym (eq-eqb (get_or ks r 0) (get_or ks s 0) e) ∙ apart_from_distinct nat_eq ks r s 0 distinct l (omega (arith, long)))

  less_by : (r s : ℕ) → r < s → s < n → (c : Ordering) → R (get_or ks s 0) (get_or ks r 0) ≡ c → is_lt (ordering_reverse c) ≡ true
  less_by r s l u Less e = absurd (true≢false (sym (ap is_lt e) ∙ later r s (omega arith) u))
  less_by r s l u Equal e = absurd (differ r s l u (sym (apart (get_or ks s 0) (get_or ks r 0) e)))
  less_by r s l u Greater e = refl

  less : (r s : ℕ) → r < s → s < n → is_lt (R (get_or ks r 0) (get_or ks s 0)) ≡ true
  less r s l u = ap is_lt (o.antisymm (get_or ks r 0) (get_or ks s 0)) ∙ less_by r s l u (R (get_or ks s 0) (get_or ks r 0)) refl

  counted : (r : ℕ) → r < n → earlier (get_or ks r 0) ≡ r
  counted r h =
      sym (sum_by-IsPermutation (λ i. cond (is_lt (R i (get_or ks r 0))) 1 0) (places n) ks moved)
      ∙ count_front (λ i. is_lt (R i (get_or ks r 0))) ks r (omega (arith, long)) (λ s l. less s r l h) (λ s l u. later r s l (omega (arith, long)))

  -- a place below n stands somewhere
  pub stands : (k : ℕ) → k < n → (s : ℕ) × (s < n) × (get_or ks s 0 ≡ k)
  stands k h =
      let there : Contains (places n) k = subst (Contains (places n)) (get_or-range_with_len 0 n k 0 h ∙ zero_plus k) (Contains-get_or (places n) k 0 (omega (arith, length-range_with_len 0 n))) in
      let at = Contains-permutation (places n) ks k moved there in
      let within : at.0 < n = omega (arith, at.1, long) in
      (at.0, within, get_or_default ks at.0 0 k at.1 ∙ at.2)

  pub below : (r : ℕ) → r < n → get_or ks r 0 < n
  below r h =
      All-contains (λ k. k < n) ks (get_or ks r 0) (All-permutation (λ k. k < n) (places n) ks moved (All-places n)) (Contains-get_or ks r 0 (omega (arith, long)))

  found : (r : ℕ) → r < n → get_or ks r 0 ≡ first_of (λ j. nat_eq (earlier j) r) n
  found r h =
      first_at (λ j. nat_eq (earlier j) r) n (get_or ks r 0) (below r h)
      (λ k l. false_from_ne_true (nat_eq (earlier k) r) (λ e.
      let low : k < n = omega (arith, below r h) in
      let at = stands k low in
      let same : at.0 ≡ r = sym (counted at.0 at.1) ∙ ap earlier at.2 ∙ eqb-true (earlier k) r e in
      let is : get_or ks r 0 ≡ k = ap (λ s. get_or ks s 0) (sym same) ∙ at.2 in
      omega arith))
      (eq-eqb (earlier (get_or ks r 0)) r (counted r h))

  pub in_order : ks ≡ map (λ r. first_of (λ j. nat_eq (earlier j) r) n) (places n)
  in_order =
      same_lists ks (map (λ r. first_of (λ j. nat_eq (earlier j) r) n) (places n)) (long ∙ sym (length-map-range_with_len (λ r. first_of (λ j. nat_eq (earlier j) r) n) 0 n))
      (λ k d l.
      let low : k < n = omega (arith, long) in
      get_or_default ks k d 0 l ∙ found k low ∙ sym (get_or-map-range_with_len (λ r. first_of (λ j. nat_eq (earlier j) r) n) 0 n k k d low (omega arith)))

then_equal : (a b : Ordering) → ordering_then a b ≡ Equal → b ≡ Equal
then_equal Less b e = cc
then_equal Equal b e = e
then_equal Greater b e = cc

nat_equal : (i j : ℕ) → nat_cmp i j ≡ Equal → i ≡ j
nat_equal i j e = by_cmp i j Equal (sym e)

-- what stands with places is in order by them
keyed_sorted : {P : Type 0} (place : P → ℕ) (C : P → P → Ordering) (Q : P → Type 0) (R : ℕ → ℕ → Ordering) → ((x y : P) → Q x → Q y → C x y ≡ R (place x) (place y)) →
    (vs : List P) → All Q vs → IsSortedBy (λ x y. is_lt (C x y)) vs → IsSortedBy (λ i j. is_lt (R i j)) (map place vs)
keyed_sorted place C Q R h [] all sorted = λ k d l u. absurd (omega arith)
keyed_sorted place C Q R h (v ∷ vs) all sorted = λ k d l u.
    let many : k + 1 < length (v ∷ vs) = omega (arith, length-map (v ∷ vs) place) in
    ap (λ m. is_lt (R m (get_or (map place (v ∷ vs)) k d))) (get_or-map place (v ∷ vs) (k + 1) v d many)
    ∙ ap (λ m. is_lt (R (place (get_or (v ∷ vs) (k + 1) v)) m)) (get_or-map place (v ∷ vs) k v d (omega arith))
    ∙ ap is_lt (sym (h (get_or (v ∷ vs) (k + 1) v) (get_or (v ∷ vs) k v) (All-contains Q (v ∷ vs) (get_or (v ∷ vs) (k + 1) v) all (Contains-get_or (v ∷ vs) (k + 1) v many)) (All-contains Q (v ∷ vs) (get_or (v ∷ vs) k v) all (Contains-get_or (v ∷ vs) k v (omega arith)))))
    ∙ sorted k v l many

module _ {X : Type 0} (C : X → X → Ordering) (d : Direction) (size n : ℕ) (xs : List X) where
  -- what stands with all places and is in order has them in order
  pub in_order_by : {P : Type 0} (place : P → ℕ) (D : P → P → Ordering) (Q : P → Type 0) → ((x y : P) → Q x → Q y → D x y ≡ run_cmp C d size xs (place x) (place y)) →
      (keys vs : List P) → map place keys ≡ places n → All Q keys → IsPermutation keys vs → IsSorted D vs → IsInOrder C d size n xs (map place vs)
  in_order_by place D Q h keys vs e all moved sorted =
      let turned : IsPermutation (places n) (map place vs) = subst (λ (ps : List ℕ). IsPermutation ps (map place vs)) e (IsPermutation-map place keys vs moved) in
      record {
        moved = turned;
        sorted = keyed_sorted place D Q (run_cmp C d size xs) h vs (All-permutation Q keys vs moved all) sorted;
        within = All-permutation (λ k. k < n) (places n) (map place vs) turned (All-places n);
      }

module _ {X : Type 0} (C : X → X → Ordering) (o : IsTotalOrder C) (size n : ℕ) (xs : List X) where
  pub up_total : IsTotalOrder (run_cmp C Up size xs)
  up_total = then_total (on_total (run size xs) (lists_total o)) nat_cmp_total

  down_total : IsTotalOrder (run_cmp C Down size xs)
  down_total = then_total (back_total (on_total (run size xs) (lists_total o))) nat_cmp_total

  pub up_apart : (i j : ℕ) → run_cmp C Up size xs i j ≡ Equal → i ≡ j
  up_apart i j e = nat_equal i j (then_equal (slice_cmp C (run size xs i) (run size xs j)) (nat_cmp i j) e)

  down_apart : (i j : ℕ) → run_cmp C Down size xs i j ≡ Equal → i ≡ j
  down_apart i j e = nat_equal i j (then_equal (slice_cmp C (run size xs j) (run size xs i)) (nat_cmp i j) e)

  pub up_in_order : (keys vs : List (Bor (List X) × ℕ)) → places_with keys ≡ places n → All (IsKeyed size xs) keys → IsPermutation keys vs → IsSorted (pair_cmp (λ x y. slice_cmp C x.now y.now)) vs →
      IsInOrder C Up size n xs (places_with vs)
  up_in_order keys vs e all moved sorted =
      in_order_by C Up size n xs (λ p. p.1) (pair_cmp (λ x y. slice_cmp C x.now y.now)) (IsKeyed size xs)
      (λ p q hp hq. ap (λ us. ordering_then (slice_cmp C us q.0.now) (nat_cmp p.1 q.1)) hp ∙ ap (λ us. ordering_then (slice_cmp C (run size xs p.1) us) (nat_cmp p.1 q.1)) hq)
      keys vs e all moved sorted

  pub down_in_order : (keys vs : List (Reverse (Bor (List X)) × ℕ)) → places_with keys ≡ places n → All (IsKeyedBack size xs) keys → IsPermutation keys vs → IsSorted (pair_cmp (λ x y. slice_cmp C y.0.now x.0.now)) vs →
      IsInOrder C Down size n xs (places_with vs)
  down_in_order keys vs e all moved sorted =
      in_order_by C Down size n xs (λ p. p.1) (pair_cmp (λ x y. slice_cmp C y.0.now x.0.now)) (IsKeyedBack size xs)
      (λ p q hp hq. ap (λ us. ordering_then (slice_cmp C q.0.0.now us) (nat_cmp p.1 q.1)) hp ∙ ap (λ us. ordering_then (slice_cmp C us (run size xs p.1)) (nat_cmp p.1 q.1)) hq)
      keys vs e all moved sorted

  pub order_counted : (d : Direction) (ks : List ℕ) → IsInOrder C d size n xs ks → ks ≡ run_order C d size n xs
  order_counted Up ks a = in_order (run_cmp C Up size xs) up_total up_apart n ks a.moved a.sorted
  order_counted Down ks a = in_order (run_cmp C Down size xs) down_total down_apart n ks a.moved a.sorted

-- one key more
pub keyed_more : {K : Type 0} (keys new : List (K × ℕ)) (key : K) (k : ℕ) → places_with keys ≡ places k → new ≡ keys ++ (key, k) ∷ [] → places_with new ≡ places (k + 1)
keyed_more {K} keys new key k h e =
    ap (places_with {K = K}) e ∙ map_push (λ p. p.1) keys (key, k) ∙ ap (λ xs. xs ++ k ∷ []) h
    ∙ ap (λ xs. xs ++ k ∷ []) (sym (map-id (places k))) ∙ sym (map-range_with_len_more (λ x. x) 0 k k (omega arith)) ∙ map-id (places (k + 1))

pub keyed_all : {P : Type 0} (Q : P → Type 0) (keys new : List P) (p : P) → All Q keys → Q p → new ≡ keys ++ p ∷ [] → All Q new
keyed_all Q keys new p all h e = subst (All Q) (sym e) (All-append Q keys (p ∷ []) all (All-cons Q p [] h (All-nil Q)))

pub ok_same : {X E : Type 0} (r : Result (Vec X Global) E) {zs ws : List X} → zs ≡ ws → IfOk r (λ v. v.items ≡ zs) → IfOk r (λ v. v.items ≡ ws)
ok_same (Ok v) e h = h ∙ e
ok_same (Err x) e h = tt

pub ok_below : {E : Type 0} (r : Result (Vec ℕ Global) E) (n : ℕ) (zs : List ℕ) → All (λ k. k < n) zs → IfOk r (λ v. v.items ≡ zs) → IfOk r (λ v. All (λ k. k < n) v.items)
ok_below (Ok v) n zs all h = subst (All (λ k. k < n)) (sym h) all
ok_below (Err x) n zs all h = tt

-- what holds of one list holds of a buffer with it
pub ok_holds : {X E : Type 0} (r : Result (Vec X Global) E) (Q : List X → Type 0) {zs : List X} → Q zs → IfOk r (λ v. v.items ≡ zs) → IfOk r (λ v. Q v.items)
ok_holds (Ok v) Q q h = subst Q (sym h) q
ok_holds (Err x) Q q h = tt

pub ok_then : {X E : Type 0} (r : Result (Vec X Global) E) (P Q : List X → Type 0) → ((xs : List X) → P xs → Q xs) → IfOk r (λ v. P v.items) → IfOk r (λ v. Q v.items)
ok_then (Ok v) P Q f h = f v.items h
ok_then (Err x) P Q f h = tt
