-- Words of items and of cells, each in order, that are gone through side by side.
use Rattle.std.proofs.Common.{◌≡◌, ◌<◌, ◌≤◌, ◌-◌, ℕ, ℤ, Bool, true, false, ◌&&◌, cond, nat_eq, nat_lt, List, [], length, map, get_or, arith, refl, sym, ap, ◌∙◌}
use Rattle.std.specs.List.{All}
use Rattle.std.specs.Cmp.{IsTotalOrder, unsigned_ties}
use Rattle.std.specs.declared.cmp.Ordering.{Ordering}
use Rattle.std.specs.Ordering.{is_eq, is_gt, nat_cmp, int_cmp}
use Rattle.std.specs.Cmp.Lexicographic.{pointwise, slice_cmp, lists_ties}
use Rattle.std.proofs.lemmas.Bool.{true≢false, ltb-true, lt-ltb}
use Rattle.std.proofs.lemmas.List.{get_or-map, length-map}
use Rattle.std.proofs.lemmas.List.Elements.{Contains-get_or, All-contains}
use Rattle.j_search.specs.declared.numbered.Range.{Range}
use Rattle.j_search.specs.declared.order.Direction.TheVariants.{Up}
use Rattle.j_search.specs.declared.seeking.Side.{Side}
use Rattle.j_search.specs.declared.seeking.Side.TheVariants.{First, Last}
use Rattle.j_search.specs.Sought.{run, place_of}
use Rattle.j_search.specs.Searched.{comes_before, run_before, IsBoundary}
use Rattle.j_search.specs.Graded.{IsAscending}
use Rattle.j_search.specs.Packed.{place_in, distance_in, IsPacked, word_before, IsWordBoundary, word_place}
use Rattle.j_search.proofs.Packing.{up_cmp}
use Rattle.j_search.proofs.Searching.{ascending_many, before_back, first_found, first_missed, last_found, last_missed, runs_up, before_later}

-- a choice by two tests
by_both : (b c : Bool) (x none y : ℕ) → (b ≡ true → c ≡ true → x ≡ y) → ((b ≡ true → c ≡ false) → none ≡ y) → cond (b && c) x none ≡ y
by_both true true x none y f g = f refl refl
by_both true false x none y f g = g (λ e. refl)
by_both false c x none y f g = g (λ e. absurd (true≢false (sym e)))

module _ {X : Type 0} (C : X → X → Ordering) (o : IsTotalOrder C) (number : X → ℤ) (by_order : (x y : X) → C x y ≡ int_cmp (number x) (number y)) (range : Range) (xs ys : List X) (n : ℕ) (ws : List ℕ) (packed : All (IsPacked number Up range xs) ws) (a : IsAscending C 1 n xs (map place_in ws)) where
  pub many : length ws ≡ n
  many = sym (length-map ws place_in) ∙ ascending_many C 1 n xs (map place_in ws) a

  at : (s : ℕ) → s < length ws → IsPacked number Up range xs (get_or ws s 0)
  at s l = All-contains (IsPacked number Up range xs) ws (get_or ws s 0) packed (Contains-get_or ws s 0 l)

  place_at : (s : ℕ) → s < length ws → get_or (map place_in ws) s 0 ≡ place_in (get_or ws s 0)
  place_at s l = get_or-map place_in ws s 0 0 l

  module _ (u : ℕ) (q : IsPacked number Up range ys u) where
    abbrev cell : List X
    cell = run 1 ys (place_in u)

    cmp_at : (s : ℕ) → s < length ws → nat_cmp (distance_in (get_or ws s 0)) (distance_in u) ≡ slice_cmp C (run 1 xs (get_or (map place_in ws) s 0)) cell
    cmp_at s l = up_cmp C number by_order range xs ys (get_or ws s 0) u (at s l) q ∙ ap (λ k. slice_cmp C (run 1 xs k) cell) (sym (place_at s l))

    pub before_is : (side : Side) (s : ℕ) → s < length ws → word_before side ws (distance_in u) s ≡ run_before side C 1 xs cell (map place_in ws) s
    before_is side s l = ap (comes_before side) (cmp_at s l)

    pub boundary_is : (side : Side) (b : ℕ) → IsWordBoundary side ws (distance_in u) b → IsBoundary side C 1 xs cell (map place_in ws) b
    boundary_is side b h = record {
      within = omega (arith, h.within, length-map ws place_in);
      front = λ s l. sym (before_is side s (omega (arith, h.within))) ∙ h.front s l;
      back = λ s l m.
          let here : b < length ws = omega (arith, length-map ws place_in) in
          before_back C o 1 n xs (map place_in ws) a cell side b s l (omega (arith, many, length-map ws place_in)) (sym (before_is side b here) ∙ h.next here);
    }

    module _ (E : X → X → Bool) (ties : (x y : X) → E x y ≡ is_eq (C x y)) where
      same_at : (s : ℕ) → s < length ws → nat_eq (distance_in (get_or ws s 0)) (distance_in u) ≡ pointwise E (run 1 xs (get_or (map place_in ws) s 0)) cell
      same_at s l = unsigned_ties (distance_in (get_or ws s 0)) (distance_in u) ∙ ap is_eq (cmp_at s l) ∙ sym (lists_ties C ties (run 1 xs (get_or (map place_in ws) s 0)) cell)

      -- the place that the words tell is that of the cell
      pub place_is : (side : Side) (b : ℕ) → IsWordBoundary side ws (distance_in u) b → word_place side ws (distance_in u) b n ≡ place_of side (λ j. pointwise E (run 1 xs j) cell) n
      place_is First b h =
          by_both (nat_lt b (length ws)) (nat_eq (distance_in (get_or ws b 0)) (distance_in u)) (place_in (get_or ws b 0)) n (place_of First (λ j. pointwise E (run 1 xs j) cell) n)
          (λ l e.
          let low : b < length ws = ltb-true b (length ws) l in
          sym (place_at b low) ∙ first_found C o 1 n xs (map place_in ws) a cell E ties b (boundary_is First b h) (omega (arith, many)) (sym (same_at b low) ∙ e))
          (λ other. first_missed C o 1 n xs (map place_in ws) a cell E ties b (boundary_is First b h)
          (λ l.
          let low : b < length ws = omega (arith, many) in
          sym (same_at b low) ∙ other (lt-ltb b (length ws) low)))
      place_is Last b h =
          by_both (nat_lt 0 b) (nat_eq (distance_in (get_or ws (b - 1) 0)) (distance_in u)) (place_in (get_or ws (b - 1) 0)) n (place_of Last (λ j. pointwise E (run 1 xs j) cell) n)
          (λ l e.
          let some : 0 < b = ltb-true 0 b l in
          let low : b - 1 < length ws = omega (arith, h.within) in
          sym (place_at (b - 1) low) ∙ last_found C o 1 n xs (map place_in ws) a cell E ties b (b - 1) (omega arith) (boundary_is Last b h) (omega (arith, many)) (sym (same_at (b - 1) low) ∙ e))
          (λ other. last_missed C o 1 n xs (map place_in ws) a cell E ties b (b - 1) refl (omega (arith, many, h.within)) (boundary_is Last b h)
          (λ some.
          let low : b - 1 < length ws = omega (arith, h.within) in
          sym (same_at (b - 1) low) ∙ other (lt-ltb 0 b some)))

  -- what comes before a turn comes before the later ones
  module _ (m : ℕ) (us : List ℕ) (turns : All (IsPacked number Up range ys) us) (b : IsAscending C 1 m ys (map place_in us)) where
    pub turn_at : (r : ℕ) → r < length us → IsPacked number Up range ys (get_or us r 0)
    turn_at r l = All-contains (IsPacked number Up range ys) us (get_or us r 0) turns (Contains-get_or us r 0 l)

    pub turns_many : length us ≡ m
    turns_many = sym (length-map us place_in) ∙ ascending_many C 1 m ys (map place_in us) b

    turn_place : (r : ℕ) → r < length us → get_or (map place_in us) r 0 ≡ place_in (get_or us r 0)
    turn_place r l = get_or-map place_in us r 0 0 l

    up : (i r : ℕ) → i ≤ r → r < length us → is_gt (slice_cmp C (run 1 ys (place_in (get_or us i 0))) (run 1 ys (place_in (get_or us r 0)))) ≡ false
    up i r l u =
        ap (λ k. is_gt (slice_cmp C (run 1 ys k) (run 1 ys (place_in (get_or us r 0))))) (sym (turn_place i (omega arith)))
        ∙ ap (λ k. is_gt (slice_cmp C (run 1 ys (get_or (map place_in us) i 0)) (run 1 ys k))) (sym (turn_place r u))
        ∙ runs_up C o 1 m ys (map place_in us) b [] i r l (omega (arith, turns_many))

    pub later : (side : Side) (i r s : ℕ) → i ≤ r → r < length us → s < length ws → word_before side ws (distance_in (get_or us i 0)) s ≡ true → word_before side ws (distance_in (get_or us r 0)) s ≡ true
    later side i r s l u m h =
        before_is (get_or us r 0) (turn_at r u) side s m
        ∙ before_later C o side 1 s xs (run 1 ys (place_in (get_or us i 0))) (run 1 ys (place_in (get_or us r 0))) (map place_in ws) (up i r l u)
        (sym (before_is (get_or us i 0) (turn_at i (omega arith)) side s m) ∙ h)

    -- what is entered for a turn
    pub placed : (E : X → X → Bool) → ((x y : X) → E x y ≡ is_eq (C x y)) → (side : Side) (i : ℕ) → i < length us → (b : ℕ) → IsWordBoundary side ws (distance_in (get_or us i 0)) b → (p : ℕ) → p ≡ word_place side ws (distance_in (get_or us i 0)) b n →
        p ≡ place_of side (λ j. pointwise E (run 1 xs j) (run 1 ys (place_in (get_or us i 0)))) n
    placed E ties side i l before h p told = told ∙ place_is (get_or us i 0) (turn_at i l) E ties side before h

-- as many words as places
pub order_many : {X : Type 0} (C : X → X → Ordering) (m : ℕ) (ys : List X) (us : List ℕ) → IsAscending C 1 m ys (map place_in us) → length us ≡ m
order_many C m ys us b = sym (length-map us place_in) ∙ ascending_many C 1 m ys (map place_in us) b
