-- What a search among places in order finds.
use Rattle.std.proofs.Common.{◌≡◌, ◌<◌, ◌≤◌, ◌+◌, ◌-◌, inl, inr, ℕ, ℤ, pos, Bool, true, false, List, length, map, set, get_or, arith, refl, sym, ap, ◌∙◌}
use Rattle.std.specs.Cmp.{IsTotalOrder}
use Rattle.std.specs.declared.cmp.Ordering.{Ordering}
use Rattle.std.specs.declared.cmp.Ordering.TheVariants.{Less, Equal, Greater}
use Rattle.std.specs.Ordering.{is_lt, is_le, is_gt, is_eq, ordering_reverse, ordering_then, nat_cmp}
use Rattle.std.specs.Cmp.Lexicographic.{pointwise, slice_cmp, lists_ties}
use Rattle.std.proofs.lemmas.Cmp.{ranked as by_cmp, by_ranked, lists_total, upto, tied_back, alike_right}
use Rattle.std.proofs.lemmas.Bool.{cases_lt, cases_eq, true≢false, false_from_ne_true}
use Rattle.j_search.specs.declared.seeking.Side.{Side}
use Rattle.j_search.specs.declared.seeking.Side.TheVariants.{First, Last}
use Rattle.std.proofs.lemmas.List.Sorted.{length_permutation}
use Rattle.std.proofs.lemmas.List.FromFn.{length-range_with_len, length-map-range_with_len, get_or-map-range_with_len}
use Rattle.std.proofs.lemmas.List.{same_lists, get_or_default, get_or-set_same, get_or-set_other}
use Rattle.j_search.specs.Matching.{places, first_of, last_of}
use Rattle.j_search.specs.Sought.{run}
use Rattle.j_search.specs.Graded.{run_cmp, IsAscending}
use Rattle.j_search.specs.Searched.{run_before, IsBoundary}
use Rattle.j_search.specs.declared.order.Direction.TheVariants.{Up}
use Rattle.j_search.proofs.Picks.{first_at, last_at, none_first, none_last}
use Rattle.j_search.proofs.Ranks.{later, stands, below, long, up_total, up_apart}

front_part : (a b : Ordering) → is_lt (ordering_then a b) ≡ false → is_lt a ≡ false
front_part Less b h = h
front_part Equal b h = refl
front_part Greater b h = refl

gt_back : (o : Ordering) → is_gt (ordering_reverse o) ≡ is_lt o
gt_back Less = refl
gt_back Equal = refl
gt_back Greater = refl

not_less : (a b : ℕ) → is_lt (nat_cmp a b) ≡ false → b ≤ a
not_less a b h =
    by_ranked (a < b) (a ≡ b) (b < a) (nat_cmp a b) (by_cmp a b (nat_cmp a b) refl) (λ e l. absurd (true≢false (sym (ap is_lt e) ∙ h))) (λ e l. omega arith) (λ e l. omega arith)

is_equal : (o : Ordering) → is_eq o ≡ true → o ≡ Equal
is_equal Less h = absurd (true≢false (sym h))
is_equal Equal h = refl
is_equal Greater h = absurd (true≢false (sym h))

between : (o : Ordering) → is_lt o ≡ false → is_gt o ≡ false → is_eq o ≡ true
between Less h g = absurd (true≢false h)
between Equal h g = refl
between Greater h g = absurd (true≢false g)

no_greater : (o : Ordering) → is_le o ≡ true → is_gt o ≡ false
no_greater Less h = refl
no_greater Equal h = refl
no_greater Greater h = absurd (true≢false (sym h))

at_most : (o : Ordering) → is_gt o ≡ false → is_le o ≡ true
at_most Less h = refl
at_most Equal h = refl
at_most Greater h = absurd (true≢false h)

is_less : (b : Bool) → (b ≡ false → ⊥) → b ≡ true
is_less true h = refl
is_less false h = absurd (h refl)

module _ {X : Type 0} (C : X → X → Ordering) (o : IsTotalOrder C) (size n : ℕ) (xs : List X) (ks : List ℕ) (a : IsAscending C size n xs ks) (cell : List X) where
  total : IsTotalOrder (slice_cmp C)
  total = lists_total o

  -- the run at a place of the order
  abbrev at : ℕ → List X
  at s = run size xs (get_or ks s 0)

  far : (r s : ℕ) → r ≤ s → s < n → is_lt (run_cmp C Up size xs (get_or ks s 0) (get_or ks r 0)) ≡ false
  far r s l u = later (run_cmp C Up size xs) (up_total C o size n xs) (up_apart C o size n xs) n ks a.moved a.sorted r s l u

  pub runs_up : (r s : ℕ) → r ≤ s → s < n → is_gt (slice_cmp C (at r) (at s)) ≡ false
  runs_up r s l u =
      ap is_gt (total.antisymm (at r) (at s)) ∙ gt_back (slice_cmp C (at s) (at r)) ∙ front_part (slice_cmp C (at s) (at r)) (nat_cmp (get_or ks s 0) (get_or ks r 0)) (far r s l u)

  -- equal runs stand in the order of their places
  tied_up : (r s : ℕ) → r ≤ s → s < n → slice_cmp C (at r) cell ≡ Equal → slice_cmp C (at s) cell ≡ Equal → get_or ks r 0 ≤ get_or ks s 0
  tied_up r s l u er es =
      let same : slice_cmp C (at s) (at r) ≡ Equal = total.congr (at s) cell (at r) es ∙ tied_back total (at r) cell er in
      not_less (get_or ks s 0) (get_or ks r 0) (ap (λ c. is_lt (ordering_then c (nat_cmp (get_or ks s 0) (get_or ks r 0)))) (sym same) ∙ far r s l u)

  gt_lt : (x y : List X) → is_gt (slice_cmp C x y) ≡ is_lt (slice_cmp C y x)
  gt_lt x y = ap is_gt (total.antisymm x y) ∙ gt_back (slice_cmp C y x)

  -- what comes before a cell is in front
  pub before_up : (side : Side) (r s : ℕ) → r ≤ s → s < n → run_before side C size xs cell ks s ≡ true → run_before side C size xs cell ks r ≡ true
  before_up First r s l u h =
      is_less (is_lt (slice_cmp C (at r) cell)) (λ e.
      true≢false (sym h ∙ sym (gt_lt cell (at s)) ∙ upto total cell (at r) (at s) (gt_lt cell (at r) ∙ e) (runs_up r s l u)))
  before_up Last r s l u h = at_most (slice_cmp C (at r) cell) (upto total (at r) (at s) cell (runs_up r s l u) (no_greater (slice_cmp C (at s) cell) h))

  pub before_back : (side : Side) (r s : ℕ) → r ≤ s → s < n → run_before side C size xs cell ks r ≡ false → run_before side C size xs cell ks s ≡ false
  before_back side r s l u h = false_from_ne_true (run_before side C size xs cell ks s) (λ e. true≢false (sym (before_up side r s l u e) ∙ h))

  many : length ks ≡ n
  many = long (run_cmp C Up size xs) (up_total C o size n xs) (up_apart C o size n xs) n ks a.moved a.sorted

  found : (k : ℕ) → k < n → (s : ℕ) × (s < n) × (get_or ks s 0 ≡ k)
  found k h = stands (run_cmp C Up size xs) (up_total C o size n xs) (up_apart C o size n xs) n ks a.moved a.sorted k h

  low : (s : ℕ) → s < n → get_or ks s 0 < n
  low s h = below (run_cmp C Up size xs) (up_total C o size n xs) (up_apart C o size n xs) n ks a.moved a.sorted s h

  module _ (E : X → X → Bool) (ties : (x y : X) → E x y ≡ is_eq (C x y)) where
    equal : (k : ℕ) → pointwise E (run size xs k) cell ≡ true → slice_cmp C (run size xs k) cell ≡ Equal
    equal k h = is_equal (slice_cmp C (run size xs k) cell) (sym (lists_ties C ties (run size xs k) cell) ∙ h)

    pub first_found : (b : ℕ) → IsBoundary First C size xs cell ks b → b < n → pointwise E (at b) cell ≡ true → get_or ks b 0 ≡ first_of (λ j. pointwise E (run size xs j) cell) n
    first_found b h l here =
        first_at (λ j. pointwise E (run size xs j) cell) n (get_or ks b 0) (low b l)
        (λ k m. false_from_ne_true (pointwise E (run size xs k) cell) (λ e.
        let less : k < n = omega (arith, low b l) in
        let s = found k less in
        let same : slice_cmp C (at s.0) cell ≡ Equal = ap (λ i. slice_cmp C (run size xs i) cell) s.2 ∙ equal k e in
        elim (cases_lt s.0 b) [
          | inl front ↦ true≢false (sym (h.front s.0 front) ∙ ap is_lt same)
          | inr back ↦ let up : get_or ks b 0 ≤ get_or ks s.0 0 = tied_up b s.0 back s.1 (equal (get_or ks b 0) here) same in omega (arith, s.2)
        ]))
        here

    pub first_missed : (b : ℕ) → IsBoundary First C size xs cell ks b → (b < n → pointwise E (at b) cell ≡ false) → n ≡ first_of (λ j. pointwise E (run size xs j) cell) n
    first_missed b h other =
        none_first (λ j. pointwise E (run size xs j) cell) n
        (λ k less. false_from_ne_true (pointwise E (run size xs k) cell) (λ e.
        let s = found k less in
        let same : slice_cmp C (at s.0) cell ≡ Equal = ap (λ i. slice_cmp C (run size xs i) cell) s.2 ∙ equal k e in
        elim (cases_lt s.0 b) [
          | inl front ↦ true≢false (sym (h.front s.0 front) ∙ ap is_lt same)
          | inr back ↦
              let l : b < n = omega (arith, s.1) in
              let within : b < length ks = omega (arith, many) in
              let up : is_gt (slice_cmp C (at b) cell) ≡ false = ap is_gt (sym (alike_right total (at s.0) cell (at b) same)) ∙ runs_up b s.0 back s.1 in
              true≢false (sym (between (slice_cmp C (at b) cell) (h.back b (omega arith) within) up) ∙ sym (lists_ties C ties (at b) cell) ∙ other l)
        ]))

    pub last_found : (b i : ℕ) → i + 1 ≡ b → IsBoundary Last C size xs cell ks b → i < n → pointwise E (at i) cell ≡ true → get_or ks i 0 ≡ last_of (λ j. pointwise E (run size xs j) cell) n
    last_found b i next h l here =
        last_at (λ j. pointwise E (run size xs j) cell) n (get_or ks i 0) (low i l)
        (λ k m less. false_from_ne_true (pointwise E (run size xs k) cell) (λ e.
        let s = found k less in
        let same : slice_cmp C (at s.0) cell ≡ Equal = ap (λ i. slice_cmp C (run size xs i) cell) s.2 ∙ equal k e in
        elim (cases_lt s.0 b) [
          | inl front ↦ let up : get_or ks s.0 0 ≤ get_or ks i 0 = tied_up s.0 i (omega arith) l same (equal (get_or ks i 0) here) in omega (arith, s.2)
          | inr back ↦ true≢false (ap is_le (sym same) ∙ h.back s.0 back (omega (arith, s.1, many)))
        ]))
        here

    pub last_missed : (b i : ℕ) → i ≡ b - 1 → b ≤ n → IsBoundary Last C size xs cell ks b → (0 < b → pointwise E (at i) cell ≡ false) → n ≡ last_of (λ j. pointwise E (run size xs j) cell) n
    last_missed b i is bound h other =
        none_last (λ j. pointwise E (run size xs j) cell) n
        (λ k less. false_from_ne_true (pointwise E (run size xs k) cell) (λ e.
        let s = found k less in
        let same : slice_cmp C (at s.0) cell ≡ Equal = ap (λ i. slice_cmp C (run size xs i) cell) s.2 ∙ equal k e in
        elim (cases_lt s.0 b) [
          | inl front ↦
              let up : is_gt (slice_cmp C cell (at i)) ≡ false = ap is_gt (sym (total.congr (at s.0) cell (at i) same)) ∙ runs_up s.0 i (omega arith) (omega arith) in
              let level : is_gt (slice_cmp C (at i) cell) ≡ false = no_greater (slice_cmp C (at i) cell) (h.front i (omega arith)) in
              true≢false (sym (between (slice_cmp C (at i) cell) (sym (gt_lt cell (at i)) ∙ up) level) ∙ sym (lists_ties C ties (at i) cell) ∙ other (omega arith))
          | inr back ↦ true≢false (ap is_le (sym same) ∙ h.back s.0 back (omega (arith, s.1, many)))
        ]))

pub ascending_many : {X : Type 0} (C : X → X → Ordering) (size n : ℕ) (xs : List X) (ks : List ℕ) → IsAscending C size n xs ks → length ks ≡ n
ascending_many C size n xs ks a = length_permutation (places n) ks a.moved ∙ length-range_with_len 0 n

turned : {X : Type 0} (C : X → X → Ordering) → IsTotalOrder C → (x y : List X) → is_gt (slice_cmp C x y) ≡ is_lt (slice_cmp C y x)
turned C o x y = let total : IsTotalOrder (slice_cmp C) = lists_total o in ap is_gt (total.antisymm x y) ∙ gt_back (slice_cmp C y x)

by_total : {X : Type 0} (C : X → X → Ordering) → IsTotalOrder C → (x y z : List X) → is_gt (slice_cmp C x y) ≡ false → is_gt (slice_cmp C y z) ≡ false → is_gt (slice_cmp C x z) ≡ false
by_total C o x y z h g = let total : IsTotalOrder (slice_cmp C) = lists_total o in upto total x y z h g

-- what comes before a cell comes before a greater one
pub before_later : {X : Type 0} (C : X → X → Ordering) → IsTotalOrder C → (side : Side) (size s : ℕ) (xs c d : List X) (ks : List ℕ) → is_gt (slice_cmp C c d) ≡ false → run_before side C size xs c ks s ≡ true → run_before side C size xs d ks s ≡ true
before_later C o First size s xs c d ks up h =
    is_less (is_lt (slice_cmp C (run size xs (get_or ks s 0)) d)) (λ e.
    true≢false (sym h ∙ sym (turned C o c (run size xs (get_or ks s 0))) ∙ by_total C o c d (run size xs (get_or ks s 0)) up (turned C o d (run size xs (get_or ks s 0)) ∙ e)))
before_later C o Last size s xs c d ks up h = at_most (slice_cmp C (run size xs (get_or ks s 0)) d) (by_total C o (run size xs (get_or ks s 0)) c d (no_greater (slice_cmp C (run size xs (get_or ks s 0)) c) h) up)

not_last : (r i : ℕ) → r < i + 1 → (r ≡ i → ⊥) → r < i
not_last r i l other = elim (cases_lt r i) [ inl less ↦ less | inr more ↦ absurd (other (omega arith)) ]

-- the places of cells, each entered at its own
pub entered_more : (F : ℕ → ℕ) (ts : List ℕ) (i k : ℕ) (old new : List ℤ) (z : ℤ) → k ≡ get_or ts i 0 → k < length old → z ≡ pos (F k) → new ≡ set old k z → ((r : ℕ) → r < i → get_or old (get_or ts r 0) (pos 0) ≡ pos (F (get_or ts r 0))) →
    (r : ℕ) → r < i + 1 → get_or new (get_or ts r 0) (pos 0) ≡ pos (F (get_or ts r 0))
entered_more F ts i k old new z at within is e so_far r l = elim (cases_eq (get_or ts r 0) k) [
  | inl same ↦ ap (λ zs. get_or zs (get_or ts r 0) (pos 0)) e ∙ ap (λ j. get_or (set old k z) j (pos 0)) same ∙ get_or-set_same old k z (pos 0) within ∙ is ∙ ap (λ j. pos (F j)) (sym same)
  | inr other ↦
      let less : r < i = not_last r i l (λ q. other (ap (λ j. get_or ts j 0) q ∙ sym at)) in
      ap (λ zs. get_or zs (get_or ts r 0) (pos 0)) e ∙ get_or-set_other old k (get_or ts r 0) z (pos 0) other ∙ so_far r less
]

pub entered_all : {X : Type 0} (C : X → X → Ordering) → IsTotalOrder C → (size n : ℕ) (ys : List X) (ts : List ℕ) → IsAscending C size n ys ts → (F : ℕ → ℕ) (zs : List ℤ) → length zs ≡ n →
    ((r : ℕ) → r < n → get_or zs (get_or ts r 0) (pos 0) ≡ pos (F (get_or ts r 0))) → zs ≡ map (λ k. pos (F k)) (places n)
entered_all C o size n ys ts a F zs wide all =
    same_lists zs (map (λ k. pos (F k)) (places n)) (wide ∙ sym (length-map-range_with_len (λ k. pos (F k)) 0 n))
    (λ k d l.
    let low : k < n = omega (arith, wide) in
    let s = stands (run_cmp C Up size ys) (up_total C o size n ys) (up_apart C o size n ys) n ts a.moved a.sorted k low in
    get_or_default zs k d (pos 0) l ∙ ap (λ j. get_or zs j (pos 0)) (sym s.2) ∙ all s.0 s.1 ∙ ap (λ j. pos (F j)) s.2
    ∙ sym (get_or-map-range_with_len (λ k. pos (F k)) 0 n k k d low (omega arith)))
