-- Places of keys that are linked.
use Rattle.std.proofs.Common.{◌≡◌, ◌<◌, ◌≤◌, ◌+◌, ◌-◌, ℕ, ℤ, pos, Bool, true, false, nat_eq, List, [], ◌∷◌, ◌++◌, length, replicate, get_or, set, arith, refl, sym, ap, ◌∙◌, append-nil, append_assoc, inl, inr, subst, unsigned_abs}
use Prim.Native.Nat.{zero, suc}
use Rattle.std.specs.List.{filter, range_with_len}
use Rattle.std.proofs.lemmas.Bool.{eqb-true, eq-eqb, cases_eq, ne_eqb}
use Rattle.std.proofs.lemmas.List.{length-set, get_or-set_same, get_or-set_other, get_or-replicate, length-replicate, get_or_default}
use Rattle.j_search.specs.Kept.{lost_places}
use Rattle.j_search.proofs.Picks.{keep}
use Rattle.j_search.proofs.Keeping.{same_pos}
use Rattle.j_cuts_key.specs.Kept.{is_class, ArePlaces, StandsFor, AreLinks}

-- the places from k on that pass are those after it, with k where it passes
filter_step : (p : ℕ → Bool) (k n : ℕ) → k < n → filter p (range_with_len k (n - k)) ≡ keep (p k) k (filter p (range_with_len (k + 1) (n - (k + 1))))
filter_step p k n h = let more : n - k ≡ suc (n - (k + 1)) = omega arith in ap (λ m. filter p (range_with_len k m)) more

pub filter_here : (p : ℕ → Bool) (k n : ℕ) → k < n → p k ≡ true → filter p (range_with_len k (n - k)) ≡ k ∷ filter p (range_with_len (k + 1) (n - (k + 1)))
filter_here p k n h e = filter_step p k n h ∙ ap (λ b. keep b k (filter p (range_with_len (k + 1) (n - (k + 1))))) e

filter_skip : (p : ℕ → Bool) (k n : ℕ) → k < n → p k ≡ false → filter p (range_with_len k (n - k)) ≡ filter p (range_with_len (k + 1) (n - (k + 1)))
filter_skip p k n h e = filter_step p k n h ∙ ap (λ b. keep b k (filter p (range_with_len (k + 1) (n - (k + 1))))) e

pub filter_ended : (p : ℕ → Bool) (k n : ℕ) → n ≤ k → filter p (range_with_len k (n - k)) ≡ []
filter_ended p k n h = let none : n - k ≡ 0 = omega arith in ap (λ m. filter p (range_with_len k m)) none

-- at the end there is no place left
stands_ended : (cl : List ℤ) (c : ℕ) → StandsFor cl c (length cl) (length cl)
stands_ended cl c = record { ahead = omega arith; inside = omega arith; here = λ h. absurd (omega arith); same = refl }

stands_here : (cl : List ℤ) (c k : ℕ) → k < length cl → is_class cl c k ≡ true → StandsFor cl c k k
stands_here cl c k h e = record { ahead = omega arith; inside = omega arith; here = λ _. e; same = refl }

stands_skip : (cl : List ℤ) (c k p : ℕ) → k < length cl → is_class cl c k ≡ false → StandsFor cl c (k + 1) p → StandsFor cl c k p
stands_skip cl c k p h e s = record { ahead = omega (arith, s.ahead); inside = s.inside; here = s.here; same = filter_skip (is_class cl c) k (length cl) h e ∙ s.same }

-- the links of the places from k on
pub record AreLinksFrom (cl : List ℤ) (k : ℕ) (heads next : List ℕ) : Type 0 where
  pub many_heads : length heads ≡ length cl
  pub many_next : length next ≡ length cl
  pub of_heads : (c : ℕ) → c < length cl → StandsFor cl c k (get_or heads c 0)
  pub of_next : (c j : ℕ) → k ≤ j → j < length cl → is_class cl c j ≡ true → StandsFor cl c (j + 1) (get_or next j 0)

pub links_ended : (cl : List ℤ) (n : ℕ) (heads next : List ℕ) → n ≡ length cl → heads ≡ replicate n n → next ≡ replicate n n → AreLinksFrom cl n heads next
links_ended cl n heads next e h g = record {
  many_heads = ap length h ∙ length-replicate n n ∙ e;
  many_next = ap length g ∙ length-replicate n n ∙ e;
  of_heads = λ c l.
      let at : get_or heads c 0 ≡ length cl = ap (λ xs. get_or xs c 0) h ∙ get_or-replicate n c n 0 (omega arith) ∙ e in
      rw (at, e) (stands_ended cl c);
  of_next = λ c j l u here. absurd (omega arith);
}

class_is : (cl : List ℤ) (k d c : ℕ) → get_or cl k (pos 0) ≡ pos d → is_class cl c k ≡ nat_eq d c
class_is cl k d c e = ap (λ z. Rattle.std.specs.Ordering.int_eq z (pos c)) e ∙ same_pos d c

pub links_step : (cl : List ℤ) (k d : ℕ) (heads next : List ℕ) → k < length cl → get_or cl k (pos 0) ≡ pos d → d < length cl → AreLinksFrom cl (k + 1) heads next →
    AreLinksFrom cl k (set heads d k) (set next k (get_or heads d 0))
links_step cl k d heads next h e g s = record {
  many_heads = length-set heads d k ∙ s.many_heads;
  many_next = length-set next k (get_or heads d 0) ∙ s.many_next;
  of_heads = λ c l. elim (cases_eq c d) [
    | inl one ↦
        let at : get_or (set heads d k) c 0 ≡ k = ap (λ i. get_or (set heads d k) i 0) one ∙ get_or-set_same heads d k 0 (omega (arith, s.many_heads)) in
        rw at (stands_here cl c k h (class_is cl k d c e ∙ eq-eqb d c (sym one)))
    | inr other ↦
        let at : get_or (set heads d k) c 0 ≡ get_or heads c 0 = get_or-set_other heads d c k 0 other in
        rw at (stands_skip cl c k (get_or heads c 0) h (class_is cl k d c e ∙ ne_eqb d c (λ x. other (sym x))) (s.of_heads c l))
  ];
  of_next = λ c j l u here. elim (cases_eq j k) [
    | inl one ↦
        let at : get_or (set next k (get_or heads d 0)) j 0 ≡ get_or heads d 0 = ap (λ i. get_or (set next k (get_or heads d 0)) i 0) one ∙ get_or-set_same next k (get_or heads d 0) 0 (omega (arith, s.many_next)) in
        let own : d ≡ c = eqb-true d c (sym (class_is cl k d c e) ∙ ap (is_class cl c) (sym one) ∙ here) in
        rw (at, one, own) (s.of_heads c (omega arith))
    | inr other ↦
        let at : get_or (set next k (get_or heads d 0)) j 0 ≡ get_or next j 0 = get_or-set_other next k j (get_or heads d 0) 0 other in
        rw at (s.of_next c j (omega (arith, other)) u here)
  ];
}

-- one place more, from the end
pub links_back : (cl : List ℤ) (k d h : ℕ) (heads next : List ℕ) → 0 < k → k ≤ length cl → ArePlaces cl → d ≡ unsigned_abs (get_or cl (k - 1) (pos 0)) → h ≡ get_or heads d h → AreLinksFrom cl k heads next →
    AreLinksFrom cl (k - 1) (set heads d (k - 1)) (set next (k - 1) h)
links_back cl k d h heads next some within all e g s =
    let inside : k - 1 < length cl = omega arith in
    let own : (get_or cl (k - 1) (pos 0) ≡ pos (unsigned_abs (get_or cl (k - 1) (pos 0)))) × (unsigned_abs (get_or cl (k - 1) (pos 0)) < length cl) = all (k - 1) inside in
    let is : get_or cl (k - 1) (pos 0) ≡ pos d = own.0 ∙ ap pos (sym e) in
    let low : d < length cl = omega (arith, own.1, e) in
    let before : k ≡ k - 1 + 1 = omega arith in
    let more : AreLinksFrom cl (k - 1 + 1) heads next = subst (λ (m : ℕ). AreLinksFrom cl m heads next) before s in
    let at : h ≡ get_or heads d 0 = g ∙ get_or_default heads d h 0 (omega (arith, s.many_heads)) in
    subst (λ (v : ℕ). AreLinksFrom cl (k - 1) (set heads d (k - 1)) (set next (k - 1) v)) (sym at) (links_step cl (k - 1) d heads next inside is low more)

pub links_all : (cl : List ℤ) (heads next : List ℕ) → AreLinksFrom cl 0 heads next → AreLinks cl heads next
links_all cl heads next s = record { many_heads = s.many_heads; many_next = s.many_next; of_heads = s.of_heads; of_next = λ c k h e. s.of_next c k (omega arith) h e }

-- a walk along the links of a key: what it has and what is left are all its places
pub record IsWalked (cl : List ℤ) (c : ℕ) (out : List ℕ) (place : ℕ) : Type 0 where
  pub here : place < length cl → is_class cl c place ≡ true
  pub all : lost_places c cl ≡ out ++ filter (is_class cl c) (range_with_len place (length cl - place))

pub walk_begun : (cl : List ℤ) (c : ℕ) (out heads next : List ℕ) → AreLinks cl heads next → c < length cl → out ≡ [] → IsWalked cl c out (get_or heads c 0)
walk_begun cl c out heads next s h e =
    let none : length cl ≡ length cl - 0 = omega arith in
    let first : StandsFor cl c 0 (get_or heads c 0) = s.of_heads c h in
    record {
      here = first.here;
      all = ap (λ m. filter (is_class cl c) (range_with_len 0 m)) none ∙ first.same
          ∙ ap (λ xs. xs ++ filter (is_class cl c) (range_with_len (get_or heads c 0) (length cl - get_or heads c 0))) (sym e);
    }

pub walk_step : (cl : List ℤ) (c : ℕ) (out new heads next : List ℕ) (place : ℕ) → AreLinks cl heads next → place < length cl → new ≡ out ++ place ∷ [] → IsWalked cl c out place → IsWalked cl c new (get_or next place 0)
walk_step cl c out new heads next place s h e w =
    let own : StandsFor cl c (place + 1) (get_or next place 0) = s.of_next c place h (w.here h) in
    record {
      here = own.here;
      all = w.all ∙ ap (λ r. out ++ r) (filter_here (is_class cl c) place (length cl) h (w.here h) ∙ ap (λ r. place ∷ r) own.same)
          ∙ sym (append_assoc out (place ∷ []) (filter (is_class cl c) (range_with_len (get_or next place 0) (length cl - get_or next place 0))))
          ∙ ap (λ xs. xs ++ filter (is_class cl c) (range_with_len (get_or next place 0) (length cl - get_or next place 0))) (sym e);
    }

-- to the next place
pub walk_on : (cl : List ℤ) (c : ℕ) (out new heads next : List ℕ) (place after : ℕ) → AreLinks cl heads next → place < length next → new ≡ out ++ place ∷ [] → after ≡ get_or next place after → IsWalked cl c out place → IsWalked cl c new after
walk_on cl c out new heads next place after s h e g w =
    let at : after ≡ get_or next place 0 = g ∙ get_or_default next place after 0 h in
    subst (λ (p : ℕ). IsWalked cl c new p) (sym at) (walk_step cl c out new heads next place s (omega (arith, s.many_next)) e w)

pub walk_ahead : (cl : List ℤ) (c : ℕ) (out heads next : List ℕ) (place : ℕ) → AreLinks cl heads next → place < length cl → IsWalked cl c out place → place < get_or next place 0
walk_ahead cl c out heads next place s h w = let own : StandsFor cl c (place + 1) (get_or next place 0) = s.of_next c place h (w.here h) in omega (arith, own.ahead)

pub walk_ended : (cl : List ℤ) (c : ℕ) (out : List ℕ) (place : ℕ) → length cl ≤ place → IsWalked cl c out place → out ≡ lost_places c cl
walk_ended cl c out place h w = sym (w.all ∙ ap (λ r. out ++ r) (filter_ended (is_class cl c) place (length cl) h) ∙ append-nil out)
