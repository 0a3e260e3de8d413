-- The first and the last place that passes a test.
use Rattle.std.proofs.Common.{eq-eqb, ◌≡◌, ◌<◌, ◌≤◌, ◌+◌, ◌-◌, ℕ, Bool, true, false, ◌||◌, cond, not, nat_eq, List, [], ◌∷◌, ◌++◌, map, reverse, get_or, arith, refl, sym, ap, ◌∙◌, inl, inr}
use Prim.Native.Nat.{zero, suc}
use Rattle.std.specs.List.{filter, range_with_len, list_any, All}
use Rattle.std.proofs.lemmas.List.Elements.{All-nil, All-cons}
use Rattle.std.proofs.lemmas.Bool.{cases_eq, ne_eqb}
use Rattle.std.proofs.lemmas.List.{reverse-append, map-id, append-nil}
use Rattle.std.proofs.lemmas.List.FromFn.{filter_of_map_range_with_len_more}
use Rattle.j_search.specs.declared.seeking.Side.{Side}
use Rattle.j_search.specs.declared.seeking.Side.TheVariants.{First, Last}
use Rattle.j_search.specs.Matching.{places, first_of, last_of}
use Rattle.j_search.specs.Sought.{place_of}

-- x in front of a list, where it is kept
abbrev pub keep : Bool → ℕ → List ℕ → List ℕ
keep b x xs = cond b (x ∷ xs) xs

pub filter_none : (p : ℕ → Bool) (a n : ℕ) → ((k : ℕ) → a ≤ k → k < a + n → p k ≡ false) → filter p (range_with_len a n) ≡ []
filter_none p a zero h = refl
filter_none p a (suc n) h =
    ap (λ b. keep b a (filter p (range_with_len (a + 1) n))) (h a (omega arith) (omega arith)) ∙ filter_none p (a + 1) n (λ k l u. h k (omega arith) (omega arith))

pub filter_same : (p q : ℕ → Bool) (a n : ℕ) → ((k : ℕ) → a ≤ k → k < a + n → p k ≡ q k) → filter p (range_with_len a n) ≡ filter q (range_with_len a n)
filter_same p q a zero h = refl
filter_same p q a (suc n) h =
    ap (λ b. keep b a (filter p (range_with_len (a + 1) n))) (h a (omega arith) (omega arith))
    ∙ ap (λ xs. keep (q a) a xs) (filter_same p q (a + 1) n (λ k l u. h k (omega arith) (omega arith)))

first_from : (p : ℕ → Bool) (a n i d : ℕ) → a ≤ i → i < a + n → ((k : ℕ) → a ≤ k → k < i → p k ≡ false) → p i ≡ true → get_or (filter p (range_with_len a n)) 0 d ≡ i
first_from p a zero i d l u none here = absurd (omega arith)
first_from p a (suc n) i d l u none here = elim (cases_eq a i) [
  | inl e ↦ ap (λ b. get_or (keep b a (filter p (range_with_len (a + 1) n))) 0 d) (ap p e ∙ here) ∙ e
  | inr ne ↦
      ap (λ b. get_or (keep b a (filter p (range_with_len (a + 1) n))) 0 d) (none a (omega arith) (omega arith))
      ∙ first_from p (a + 1) n i d (omega arith) (omega arith) (λ k m v. none k (omega arith) (omega arith)) here
]

keep_append : (b : Bool) (x : ℕ) (xs ys : List ℕ) → keep b x (xs ++ ys) ≡ keep b x xs ++ ys
keep_append true x xs ys = refl
keep_append false x xs ys = refl

last_from : (p : ℕ → Bool) (a n i : ℕ) → a ≤ i → i < a + n → ((k : ℕ) → i < k → k < a + n → p k ≡ false) → p i ≡ true → (front : List ℕ) × (filter p (range_with_len a n) ≡ front ++ i ∷ [])
last_from p a zero i l u none here = absurd (omega arith)
last_from p a (suc n) i l u none here = elim (cases_eq a i) [
  | inl e ↦ (
    [],
    ap (λ b. keep b a (filter p (range_with_len (a + 1) n))) (ap p e ∙ here)
        ∙ ap (λ xs. a ∷ xs) (filter_none p (a + 1) n (λ k m v. none k (omega arith) (omega arith))) ∙ ap (λ x. x ∷ []) e,
  )
  | inr ne ↦
      let rest = last_from p (a + 1) n i (omega arith) (omega arith) (λ k m v. none k (omega arith) (omega arith)) here in
      (keep (p a) a rest.0, ap (keep (p a) a) rest.1 ∙ keep_append (p a) a rest.0 (i ∷ []))
]

-- the place that a search from the front finds, and from the end
pub first_at : (p : ℕ → Bool) (n i : ℕ) → i < n → ((k : ℕ) → k < i → p k ≡ false) → p i ≡ true → i ≡ first_of p n
first_at p n i h none here = sym (first_from p 0 n i n (omega arith) (omega arith) (λ k l u. none k u) here)

pub last_at : (p : ℕ → Bool) (n i : ℕ) → i < n → ((k : ℕ) → i < k → k < n → p k ≡ false) → p i ≡ true → i ≡ last_of p n
last_at p n i h none here =
    let split = last_from p 0 n i (omega arith) (omega arith) (λ k l u. none k l (omega arith)) here in
    sym (ap (λ xs. get_or (reverse xs) 0 n) split.1 ∙ ap (λ xs. get_or xs 0 n) (reverse-append split.0 (i ∷ [])))

pub none_first : (p : ℕ → Bool) (n : ℕ) → ((k : ℕ) → k < n → p k ≡ false) → n ≡ first_of p n
none_first p n none = sym (ap (λ xs. get_or xs 0 n) (filter_none p 0 n (λ k l u. none k (omega arith))))

pub none_last : (p : ℕ → Bool) (n : ℕ) → ((k : ℕ) → k < n → p k ≡ false) → n ≡ last_of p n
none_last p n none = sym (ap (λ xs. get_or (reverse xs) 0 n) (filter_none p 0 n (λ k l u. none k (omega arith))))

pub none_place : (side : Side) (p : ℕ → Bool) (n : ℕ) → ((k : ℕ) → k < n → p k ≡ false) → n ≡ place_of side p n
none_place First p n none = none_first p n none
none_place Last p n none = none_last p n none

pub place_same : (side : Side) (p q : ℕ → Bool) (n : ℕ) → ((k : ℕ) → k < n → p k ≡ q k) → place_of side p n ≡ place_of side q n
place_same First p q n h = ap (λ xs. get_or xs 0 n) (filter_same p q 0 n (λ k l u. h k (omega arith)))
place_same Last p q n h = ap (λ xs. get_or (reverse xs) 0 n) (filter_same p q 0 n (λ k l u. h k (omega arith)))

-- functions that are the same below n
pub map_same : {X : Type 0} (f g : ℕ → X) (a n : ℕ) → ((k : ℕ) → a ≤ k → k < a + n → f k ≡ g k) → map f (range_with_len a n) ≡ map g (range_with_len a n)
map_same f g a zero h = refl
map_same f g a (suc n) h =
    ap (λ x. x ∷ map f (range_with_len (a + 1) n)) (h a (omega arith) (omega arith)) ∙ ap (λ r. g a ∷ r) (map_same f g (a + 1) n (λ k l u. h k (omega arith) (omega arith)))

pub map_places : {X : Type 0} (f g : ℕ → X) (n : ℕ) → ((k : ℕ) → k < n → f k ≡ g k) → map f (places n) ≡ map g (places n)
map_places f g n h = map_same f g 0 n (λ k l u. h k (omega arith))

-- a place is found where any passes
found_by : (b : Bool) (a d : ℕ) (xs : List ℕ) (rest : Bool) → a < d → not (nat_eq (get_or xs 0 d) d) ≡ rest → not (nat_eq (get_or (keep b a xs) 0 d) d) ≡ (b || rest)
found_by true a d xs rest h e = ap not (ne_eqb a d (λ same. omega arith))
found_by false a d xs rest h e = e

found_from : (p : ℕ → Bool) (a n d : ℕ) → a + n ≤ d → not (nat_eq (get_or (filter p (range_with_len a n)) 0 d) d) ≡ list_any p (range_with_len a n)
found_from p a zero d h = ap not (eq-eqb d d refl)
found_from p a (suc n) d h =
    found_by (p a) a d (filter p (range_with_len (a + 1) n)) (list_any p (range_with_len (a + 1) n)) (omega arith) (found_from p (a + 1) n d (omega arith))

pub found_where_any : (p : ℕ → Bool) (n : ℕ) → not (nat_eq (first_of p n) n) ≡ list_any p (places n)
found_where_any p n = found_from p 0 n n (omega arith)

-- one place more
pub filter_more : (p : ℕ → Bool) (k : ℕ) → filter p (places (k + 1)) ≡ filter p (places k) ++ keep (p k) k []
filter_more p k =
    ap (filter p) (sym (map-id (places (k + 1)))) ∙ filter_of_map_range_with_len_more p (λ x. x) 0 k k (omega arith)
    ∙ ap (λ xs. filter p xs ++ keep (p k) k []) (map-id (places k))

pub filter_taken : (p : ℕ → Bool) (k : ℕ) (old new : List ℕ) → old ≡ filter p (places k) → p k ≡ true → new ≡ old ++ k ∷ [] → new ≡ filter p (places (k + 1))
filter_taken p k old new e here pushed = pushed ∙ ap (λ xs. xs ++ k ∷ []) e ∙ ap (λ b. filter p (places k) ++ keep b k []) (sym here) ∙ sym (filter_more p k)

pub filter_left : (p : ℕ → Bool) (k : ℕ) (old : List ℕ) → old ≡ filter p (places k) → p k ≡ false → old ≡ filter p (places (k + 1))
filter_left p k old e here =
    e ∙ sym (append-nil (filter p (places k))) ∙ ap (λ b. filter p (places k) ++ keep b k []) (sym here) ∙ sym (filter_more p k)

-- the last of places that all pass
pub last_of_all : (n m : ℕ) → m ≡ n - 1 → m ≡ last_of (λ j. true) n
last_of_all zero m e = let none : m ≡ zero = omega arith in none ∙ none_last (λ j. true) zero (λ k l. absurd (omega arith))
last_of_all (suc n) m e = let here : m ≡ n = omega arith in here ∙ last_at (λ j. true) (suc n) n (omega arith) (λ k l u. absurd (omega arith)) refl

-- places that are kept are below the bound
keep_below : (b : Bool) (a m : ℕ) (xs : List ℕ) → a < m → All (λ k. k < m) xs → All (λ k. k < m) (keep b a xs)
keep_below true a m xs h g = All-cons (λ k. k < m) a xs h g
keep_below false a m xs h g = g

filter_below : (p : ℕ → Bool) (a n m : ℕ) → a + n ≤ m → All (λ k. k < m) (filter p (range_with_len a n))
filter_below p a zero m h = All-nil (λ k. k < m)
filter_below p a (suc n) m h = keep_below (p a) a m (filter p (range_with_len (a + 1) n)) (omega arith) (filter_below p (a + 1) n m (omega arith))

pub All-kept : (p : ℕ → Bool) (n : ℕ) → All (λ k. k < n) (filter p (places n))
All-kept p n = filter_below p 0 n n (omega arith)
