-- The first row with a key, and the map that rows stand for when it is changed.
use Rattle.std.proofs.Common.{◌≡◌, ℕ, zero, suc, ◌+◌, ◌<◌, Bool, true, false, cond, IsTrue, List, [], ◌∷◌, ◌++◌, length, get_or, set, drop, map, Option, None, Some, refl, sym, ap, ◌∙◌, subst, arith, drop-cons, add-one}
use Rattle.std.proofs.Common.{Ordering, Less, Equal, Greater}
use Rattle.std.specs.Ordering.{eq_by_cmp, is_eq}
use Rattle.std.specs.Cmp.{IsTotalOrder, tied_itself}
use Rattle.std.specs.List.{position_from}
use Rattle.std.specs.FinMap.{find, insert, same_map, get, get-from_entries, get-insert, from_entries, from_entries_push, IsAntisymmetric}

tied : (r : Ordering) → is_eq r ≡ true → r ≡ Equal
tied Less e = grind arith
tied Equal e = refl
tied Greater e = grind arith

pub not_true : (b : Bool) → (b ≡ true → false ≡ true) → b ≡ false
not_true true n = sym (n refl)
not_true false n = refl

not_None : {A : Type 0} (x : A) → Some x ≡ None → ⊥
not_None x e = grind arith

same_Some : {A : Type 0} (x y : A) → Some x ≡ Some y → x ≡ y
same_Some x y e = grind arith

pub shadowed : {X : Type 0} (b : Bool) (x y z : Option X) → cond b x z ≡ cond b x (cond b y z)
shadowed true x y z = refl
shadowed false x y z = refl

swapped : {X : Type 0} (a b : Bool) (x y z : Option X) → (b ≡ true → a ≡ false) → cond a x (cond b y z) ≡ cond b y (cond a x z)
swapped a true x y z apart = ap (λ c. cond c x y) (apart refl)
swapped a false x y z apart = refl

module _ {K R X : Type 0} (cmp : K → K → Ordering) (total : IsTotalOrder cmp) (exact : IsAntisymmetric cmp) (key : R → K) (value : R → X) where
  abbrev same : K → K → Bool
  same = eq_by_cmp cmp

  abbrev has : K → R → Bool
  has k r = eq_by_cmp cmp k (key r)

  abbrev entry : R → K × X
  entry r = (key r, value r)

  pub equal_same : (k l : K) → l ≡ k → same k l ≡ true
  equal_same k l e = subst (λ (m : K). same k m ≡ true) (sym e) (ap is_eq (tied_itself total k))

  pub same_equal : (k l : K) → same k l ≡ true → k ≡ l
  same_equal k l e = exact k l (tied _ e)

  same_is : (b : Bool) (k l : K) → (IsTrue b → l ≡ k) → (l ≡ k → IsTrue b) → same k l ≡ b
  same_is true k l there back = equal_same k l (there refl)
  same_is false k l there back = not_true _ (λ t. back (sym (same_equal k l t)))

  pub row_has : (b : Bool) (k l : K) → (IsTrue b → l ≡ k) × (l ≡ k → IsTrue b) → same k l ≡ b
  row_has b k l h = same_is b k l h.0 h.1

  pub one_row : (b : Bool) (k : K) (rows : List R) (i : ℕ) (r : R) → i < length rows → r ≡ get_or rows i r → has k r ≡ b
      → position_from (has k) i (drop i rows) ≡ cond b (Some i) (position_from (has k) (i + 1) (drop (i + 1) rows))
  one_row b k rows i r lt is e =
      ap (position_from (has k) i) (drop-cons rows i r lt)
      ∙ ap (λ (n : ℕ). cond (has k (get_or rows i r)) (Some i) (position_from (has k) (i + 1) (drop n rows))) (sym (add-one i))
      ∙ ap (λ x. cond (has k x) (Some i) (position_from (has k) (i + 1) (drop (i + 1) rows))) (sym is)
      ∙ ap (λ x. cond x (Some i) (position_from (has k) (i + 1) (drop (i + 1) rows))) e

  -- whether the row at i is the first with the key k
  abbrev IsFirst : K → List R → ℕ → Type 0
  IsFirst k [] i = ⊥
  IsFirst k (r ∷ rs) zero = has k r ≡ true
  IsFirst k (r ∷ rs) (suc i) = (has k r ≡ false) × IsFirst k rs i

  abbrev values : K → List R → Option X
  values k rows = find cmp k (map entry rows)

  none_found : (k : K) (n : ℕ) (rows : List R) → position_from (has k) n rows ≡ None → values k rows ≡ None
  none_found k n [] e = refl
  none_found k n (r ∷ rs) e =
      elim (has k r) as (λ b. cond b (Some n) (position_from (has k) (n + 1) rs) ≡ None → cond b (Some (value r)) (values k rs) ≡ None) [
        | true ↦ λ is. absurd (not_None n is)
        | false ↦ λ is. none_found k (n + 1) rs is
      ] e

  first_found : (k : K) (n i : ℕ) (rows : List R) → position_from (has k) n rows ≡ Some i → (j : ℕ) × (i ≡ j + n) × IsFirst k rows j
  first_found k n i [] e = absurd (not_None i (sym e))
  first_found k n i (r ∷ rs) e =
      elim (has k r) as (λ b. has k r ≡ b → cond b (Some n) (position_from (has k) (n + 1) rs) ≡ Some i → (j : ℕ) × (i ≡ j + n) × IsFirst k (r ∷ rs) j) [
        | true ↦ λ h is. (0, omega (arith, same_Some n i is), h)
        | false ↦ λ h is. let rest = first_found k (n + 1) i rs is in (suc rest.0, omega (arith, rest.1), (h, rest.2))
      ] refl e

  first_at : (k : K) (rows : List R) (i : ℕ) → position_from (has k) 0 rows ≡ Some i → IsFirst k rows i
  first_at k rows i e = let f = first_found k 0 i rows e in subst (IsFirst k rows) (sym (omega (arith, f.1))) f.2

  first_within : (k : K) (rows : List R) (i : ℕ) → IsFirst k rows i → i < length rows
  first_within k [] i h = absurd h
  first_within k (r ∷ rs) zero h = omega arith
  first_within k (r ∷ rs) (suc i) h = omega (arith, first_within k rs i h.1)

  first_value : (k : K) (rows : List R) (i : ℕ) (d : R) → IsFirst k rows i → values k rows ≡ Some (value (get_or rows i d))
  first_value k [] i d h = absurd h
  first_value k (r ∷ rs) zero d h = ap (λ b. cond b (Some (value r)) (values k rs)) h
  first_value k (r ∷ rs) (suc i) d h = ap (λ b. cond b (Some (value r)) (values k rs)) h.0 ∙ first_value k rs i d h.1

  -- a row put in the place of the first with its key
  value_set : (k q : K) (rows : List R) (i : ℕ) (d s : R) → IsFirst k rows i → key s ≡ key (get_or rows i d)
      → values q (set rows i s) ≡ cond (same q k) (Some (value s)) (values q rows)
  value_set k q [] i d s h e = absurd h
  value_set k q (r ∷ rs) zero d s h e =
      let of_k : key s ≡ k = e ∙ sym (same_equal k (key r) h) in
      ap (λ (l : K). cond (same q l) (Some (value s)) (values q rs)) of_k
      ∙ shadowed (same q k) (Some (value s)) (Some (value r)) (values q rs)
      ∙ ap (λ (l : K). cond (same q k) (Some (value s)) (cond (same q l) (Some (value r)) (values q rs))) (same_equal k (key r) h)
  value_set k q (r ∷ rs) (suc i) d s h e =
      ap (cond (same q (key r)) (Some (value r))) (value_set k q rs i d s h.1 e)
      ∙ swapped _ _ _ _ _ (λ t. subst (λ (l : K). same l (key r) ≡ false) (sym (same_equal q k t)) h.0)

  pub kept_set : (k : K) (rows : List R) (i : ℕ) (d s : R) → position_from (has k) 0 rows ≡ Some i → key s ≡ key (get_or rows i d)
      → from_entries {R = cmp} (map entry (set rows i s)) ≡ insert (from_entries {R = cmp} (map entry rows)) k (value s)
  kept_set k rows i d s h e =
      same_map total exact _ _
      (λ q. get-from_entries total _ q ∙ value_set k q rows i d s (first_at k rows i h) e
      ∙ sym (get-insert total (from_entries {R = cmp} (map entry rows)) k (value s) q ∙ ap (cond (same q k) (Some (value s))) (get-from_entries total _ q)))

  entries_push : (rows : List R) (r : R) → map entry (rows ++ r ∷ []) ≡ map entry rows ++ entry r ∷ []
  entries_push [] r = refl
  entries_push (x ∷ xs) r = ap (entry x ∷◌) (entries_push xs r)

  pub kept_push : (rows : List R) (r : R) → get (from_entries {R = cmp} (map entry rows)) (key r) ≡ None
      → from_entries {R = cmp} (map entry (rows ++ r ∷ [])) ≡ insert (from_entries {R = cmp} (map entry rows)) (key r) (value r)
  kept_push rows r none =
      ap (from_entries {R = cmp}) (entries_push rows r)
      ∙ from_entries_push total exact (map entry rows) (key r) (value r) (sym (get-from_entries total (map entry rows) (key r)) ∙ none)

  -- what a search of the rows gave
  pub searched : (k : K) (l rows : List R) (o r : Option ℕ) → l ≡ rows → o ≡ position_from (has k) 0 l → o ≡ r → position_from (has k) 0 rows ≡ r
  searched k l rows o r same_rows gave was = ap (position_from (has k) 0) (sym same_rows) ∙ sym gave ∙ was

  pub not_found : (k : K) (rows : List R) → position_from (has k) 0 rows ≡ None → get (from_entries {R = cmp} (map entry rows)) k ≡ None
  not_found k rows e = get-from_entries total (map entry rows) k ∙ none_found k 0 rows e

  pub found_within : (k : K) (rows : List R) (i : ℕ) → position_from (has k) 0 rows ≡ Some i → i < length rows
  found_within k rows i e = first_within k rows i (first_at k rows i e)

  pub found_value : (k : K) (rows : List R) (i : ℕ) (r : R) → position_from (has k) 0 rows ≡ Some i → r ≡ get_or rows i r
      → Some (value r) ≡ get (from_entries {R = cmp} (map entry rows)) k
  found_value k rows i r e is =
      ap (λ (x : R). Some (value x)) is
      ∙ sym (get-from_entries total (map entry rows) k ∙ first_value k rows i r (first_at k rows i e))
