-- Words that have a number in front of its place are ordered as the numbers are, and equal ones as their places.
use Rattle.std.proofs.Common.{◌≡◌, ◌<◌, ◌+◌, ◌*◌, ℕ, ℤ, pos, ◌+ℤ◌, ◌<ℤ◌, List, [], ◌∷◌, ◌++◌, length, map, get_or, arith, refl, sym, ap, ◌∙◌, subst, FitsSigned}
use Rattle.std.specs.List.{All}
use Rattle.std.specs.Int.{w64}
use Rattle.std.specs.List.Sorted.{IsPermutation, IsSorted}
use Rattle.std.specs.declared.cmp.Ordering.{Ordering}
use Rattle.std.specs.declared.cmp.Ordering.TheVariants.{Less, Equal, Greater}
use Rattle.std.specs.Ordering.{ordering_then, nat_cmp, int_cmp, MatchOrdering}
use Rattle.std.specs.Cmp.{int_cmp_is, nat_cmp_is}
use Rattle.std.specs.Cmp.Lexicographic.{slice_cmp}
use Rattle.std.proofs.lemmas.Cmp.{ranked as by_cmp}
use Rattle.std.proofs.lemmas.Int.{ints}
use Rattle.std.proofs.lemmas.Nat.{mod-mul-add, div-mul-add, div-add-mod'}
use Rattle.std.proofs.Math.Nat.{mod-lt}
use Rattle.std.proofs.lemmas.List.{map_push, map-id}
use Rattle.std.proofs.lemmas.List.FromFn.{map-range_with_len_more}
use Rattle.j_search.specs.declared.numbered.Range.{Range}
use Rattle.j_search.specs.declared.order.Direction.{Direction}
use Rattle.j_search.specs.declared.order.Direction.TheVariants.{Up, Down}
use Rattle.j_search.specs.Matching.{places}
use Rattle.j_search.specs.Sought.{run}
use Rattle.j_search.specs.Graded.{run_cmp, IsInOrder}
use Rattle.j_search.specs.Packed.{place_in, distance_in, IsDistance, IsPacked}
use Rattle.j_search.proofs.Ranks.{in_order_by}
use Rattle.j_search.proofs.Tables.{one_run}

-- the order of words is that of their fronts, and then of their places
then_ranks : (a b i j : ℕ) (r s : Ordering) → i < 4194304 → j < 4194304 → MatchOrdering r (a < b) (a ≡ b) (b < a) → MatchOrdering s (i < j) (i ≡ j) (j < i) →
    MatchOrdering (ordering_then r s) (a * 4194304 + i < b * 4194304 + j) (a * 4194304 + i ≡ b * 4194304 + j) (b * 4194304 + j < a * 4194304 + i)
then_ranks a b i j Less s l u h g = omega arith
then_ranks a b i j Equal Less l u h g = omega arith
then_ranks a b i j Equal Equal l u h g = omega arith
then_ranks a b i j Equal Greater l u h g = omega arith
then_ranks a b i j Greater s l u h g = omega arith

parts_cmp : (a b i j : ℕ) → i < 4194304 → j < 4194304 → nat_cmp (a * 4194304 + i) (b * 4194304 + j) ≡ ordering_then (nat_cmp a b) (nat_cmp i j)
parts_cmp a b i j l u =
    sym (nat_cmp_is (a * 4194304 + i) (b * 4194304 + j) (ordering_then (nat_cmp a b) (nat_cmp i j))
    (then_ranks a b i j (nat_cmp a b) (nat_cmp i j) l u (by_cmp a b (nat_cmp a b) refl) (by_cmp i j (nat_cmp i j) refl)))

place_low : (w : ℕ) → place_in w < 4194304
place_low w = mod-lt w (omega arith)

word_cmp : (v w : ℕ) → nat_cmp v w ≡ ordering_then (nat_cmp (distance_in v) (distance_in w)) (nat_cmp (place_in v) (place_in w))
word_cmp v w =
    ap (λ n. nat_cmp n w) (sym (div-add-mod' v 4194304)) ∙ ap (nat_cmp (distance_in v * 4194304 + place_in v)) (sym (div-add-mod' w 4194304))
    ∙ parts_cmp (distance_in v) (distance_in w) (place_in v) (place_in w) (place_low v) (place_low w)

-- numbers are ordered as their distances are
up_ranks : (low z w : ℤ) (a b : ℕ) (r : Ordering) → z ≡ (low +ℤ pos a) → w ≡ (low +ℤ pos b) → MatchOrdering r (a < b) (a ≡ b) (b < a) → MatchOrdering r (z <ℤ w) (z ≡ w) (w <ℤ z)
up_ranks low z w a b Less e f h = omega (arith, ints)
up_ranks low z w a b Equal e f h = omega (arith, ints)
up_ranks low z w a b Greater e f h = omega (arith, ints)

down_ranks : (high z w : ℤ) (a b : ℕ) (r : Ordering) → (z +ℤ pos a) ≡ high → (w +ℤ pos b) ≡ high → MatchOrdering r (a < b) (a ≡ b) (b < a) → MatchOrdering r (w <ℤ z) (w ≡ z) (z <ℤ w)
down_ranks high z w a b Less e f h = omega (arith, ints)
down_ranks high z w a b Equal e f h = omega (arith, ints)
down_ranks high z w a b Greater e f h = omega (arith, ints)

then_last : (o : Ordering) → ordering_then o Equal ≡ o
then_last Less = refl
then_last Equal = refl
then_last Greater = refl

ones_cmp : {X : Type 0} (C : X → X → Ordering) (x y : X) (us vs : List X) → us ≡ x ∷ [] → vs ≡ y ∷ [] → C x y ≡ slice_cmp C us vs
ones_cmp C x y us vs eu ev = sym (then_last (C x y)) ∙ ap (λ rs. slice_cmp C rs (y ∷ [])) (sym eu) ∙ ap (slice_cmp C us) (sym ev)

module _ {X : Type 0} (C : X → X → Ordering) (number : X → ℤ) (by_order : (x y : X) → C x y ≡ int_cmp (number x) (number y)) (range : Range) where
  -- distances are ordered as what stands at the places
  pub up_cmp : (xs ys : List X) (v w : ℕ) → IsPacked number Up range xs v → IsPacked number Up range ys w → nat_cmp (distance_in v) (distance_in w) ≡ slice_cmp C (run 1 xs (place_in v)) (run 1 ys (place_in w))
  up_cmp xs ys v w p q =
      int_cmp_is (number p.element) (number q.element) (nat_cmp (distance_in v) (distance_in w))
      (up_ranks range.low (number p.element) (number q.element) (distance_in v) (distance_in w) (nat_cmp (distance_in v) (distance_in w)) p.distance q.distance (by_cmp (distance_in v) (distance_in w) (nat_cmp (distance_in v) (distance_in w)) refl))
      ∙ sym (by_order p.element q.element) ∙ ones_cmp C p.element q.element (run 1 xs (place_in v)) (run 1 ys (place_in w)) p.here q.here

  down_cmp : (xs : List X) (v w : ℕ) → IsPacked number Down range xs v → IsPacked number Down range xs w → nat_cmp (distance_in v) (distance_in w) ≡ slice_cmp C (run 1 xs (place_in w)) (run 1 xs (place_in v))
  down_cmp xs v w p q =
      int_cmp_is (number q.element) (number p.element) (nat_cmp (distance_in v) (distance_in w))
      (down_ranks (range.low +ℤ pos range.width) (number p.element) (number q.element) (distance_in v) (distance_in w) (nat_cmp (distance_in v) (distance_in w)) p.distance q.distance (by_cmp (distance_in v) (distance_in w) (nat_cmp (distance_in v) (distance_in w)) refl))
      ∙ sym (by_order q.element p.element) ∙ ones_cmp C q.element p.element (run 1 xs (place_in w)) (run 1 xs (place_in v)) q.here p.here

  packed_cmp : (d : Direction) (xs : List X) (v w : ℕ) → IsPacked number d range xs v → IsPacked number d range xs w → nat_cmp v w ≡ run_cmp C d 1 xs (place_in v) (place_in w)
  packed_cmp Up xs v w p q = word_cmp v w ∙ ap (λ o. ordering_then o (nat_cmp (place_in v) (place_in w))) (up_cmp xs xs v w p q)
  packed_cmp Down xs v w p q = word_cmp v w ∙ ap (λ o. ordering_then o (nat_cmp (place_in v) (place_in w))) (down_cmp xs v w p q)

  pub packed_in_order : (d : Direction) (n : ℕ) (xs : List X) (words sorted : List ℕ) → map place_in words ≡ places n → All (IsPacked number d range xs) words → IsPermutation words sorted → IsSorted nat_cmp sorted →
      IsInOrder C d 1 n xs (map place_in sorted)
  packed_in_order d n xs words sorted e all moved up = in_order_by C d 1 n xs place_in nat_cmp (IsPacked number d range xs) (packed_cmp d xs) words sorted e all moved up

-- one word more
pub packed_more : (words new : List ℕ) (far k : ℕ) → k < 4194304 → map place_in words ≡ places k → new ≡ words ++ (far * 4194304 + k) ∷ [] → map place_in new ≡ places (k + 1)
packed_more words new far k low h e =
    ap (map place_in) e ∙ map_push place_in words (far * 4194304 + k) ∙ ap (λ xs. xs ++ place_in (far * 4194304 + k) ∷ []) h
    ∙ ap (λ m. places k ++ m ∷ []) (mod-mul-add far 4194304 k low)
    ∙ ap (λ xs. xs ++ k ∷ []) (sym (map-id (places k))) ∙ sym (map-range_with_len_more (λ x. x) 0 k k (omega arith)) ∙ map-id (places (k + 1))

pub packed_here : {X : Type 0} (number : X → ℤ) (d : Direction) (range : Range) (xs : List X) (x : X) (far k : ℕ) → k < 4194304 → k < length xs → x ≡ get_or xs k x → IsDistance d range (number x) far → FitsSigned w64 (number x) →
    IsPacked number d range xs (far * 4194304 + k)
packed_here number d range xs x far k low within is distance fits =
    let at : place_in (far * 4194304 + k) ≡ k = mod-mul-add far 4194304 k low in
    record {
      element = x;
      here = ap (run 1 xs) at ∙ one_run xs k x within ∙ ap (λ y. y ∷ []) (sym is);
      distance = subst (IsDistance d range (number x)) (sym (div-mul-add far 4194304 k low)) distance;
      fits = fits;
    }
