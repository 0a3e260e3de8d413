-- Matching is the same both ways, and goes on from one noun to the next.
use Rattle.std.proofs.Common.{◌≡◌, ◌<◌, ◌≤◌, ◌+◌, ◌*◌, inl, inr, ℕ, ℤ, pos, Bool, true, false, ◌&&◌, ◌==◌, nat_eq, List, [], ◌∷◌, ◌++◌, length, map, get_or, arith, refl, sym, ap, ◌∙◌, subst, mul-one, Err}
use Prim.Native.Nat.{zero, suc}
use Rattle.std.specs.List.{All, filter, flat_map, range_with_len}
use Rattle.std.specs.Ordering.{int_eq}
use Rattle.std.specs.Cmp.Lexicographic.{pointwise}
use Rattle.std.proofs.lemmas.Bool.{eqb-true, eq-eqb, true≢false}
use Rattle.std.proofs.lemmas.Cmp.{int_eq_equiv, nat_eq_equiv, nat_list_eq_equiv}
use Rattle.std.proofs.lemmas.List.{length-map, map-append, length-append}
use Rattle.std.proofs.lemmas.List.Elements.{All-nil, All-cons, All-head, All-tail, All-append}
use Rattle.std.proofs.lemmas.List.FromFn.{length-map-range_with_len}
use Rattle.std.proofs.lemmas.Bool.{cases_lt}
use Rattle.j_definitions.specs.Array.{Array, Atom, number, byte, nested, boxed, Row, row_end, row_more, product, tally, atom_match, row_match, arrays_match}
use Rattle.j_definitions.proofs.Laws.{boxed_match}
use Rattle.j_definitions.proofs.Limits.{true_left, true_right, many_beyond}
use Rattle.j_definitions.specs.declared.Kind.TheVariants.{Number}
use Rattle.j_definitions.specs.declared.Fault.TheVariants.{Limit}
use Rattle.j_search.specs.Matching.{places, bit, item_of, first_of, first_item, is_first, firsts, self_classify}
use Rattle.j_search.specs.Kept.{class_row, class_rows}
use Rattle.j_search.proofs.Picks.{keep, map_places}
use Rattle.j_search.proofs.Keeping.{map_map, same_pos, one_where}

mutual
  atom_symm : (x y : Atom) → atom_match x y ≡ atom_match y x
  atom_symm (number y) (number z) = int_eq_equiv.symm y z
  atom_symm (byte a) (byte b) = nat_eq_equiv.symm a b
  atom_symm (nested k s q) (nested l t r) = λ i. nat_list_eq_equiv.symm s t i && row_symm q r i
  atom_symm (number y) (byte b) = refl
  atom_symm (number y) (nested k s r) = refl
  atom_symm (byte a) (number z) = refl
  atom_symm (byte a) (nested k s r) = refl
  atom_symm (nested k s q) (number z) = refl
  atom_symm (nested k s q) (byte b) = refl

  row_symm : (q r : Row) → row_match q r ≡ row_match r q
  row_symm row_end row_end = refl
  row_symm row_end (row_more y r) = refl
  row_symm (row_more x q) row_end = refl
  row_symm (row_more x q) (row_more y r) = λ i. atom_symm x y i && row_symm q r i

both : (a b : Bool) → a ≡ true → b ≡ true → (a && b) ≡ true
both a b h g = ap (λ c. c && b) h ∙ g

list_trans : (s t u : List ℕ) → pointwise ◌==◌ s t ≡ true → pointwise ◌==◌ t u ≡ true → pointwise ◌==◌ s u ≡ true
list_trans s t u h g = nat_list_eq_equiv.congr s t u h ∙ g

mutual
  atom_trans : (x y z : Atom) → atom_match x y ≡ true → atom_match y z ≡ true → atom_match x z ≡ true
  atom_trans (number x) (number y) (number z) h g = int_eq_equiv.congr x y z h ∙ g
  atom_trans (byte a) (byte b) (byte c) h g = nat_eq_equiv.congr a b c h ∙ g
  atom_trans (nested k s q) (nested l t r) (nested m u v) h g =
      both (pointwise ◌==◌ s u) (row_match q v)
      (list_trans s t u (true_left (pointwise ◌==◌ s t) (row_match q r) h) (true_left (pointwise ◌==◌ t u) (row_match r v) g))
      (row_trans q r v (true_right (pointwise ◌==◌ s t) (row_match q r) h) (true_right (pointwise ◌==◌ t u) (row_match r v) g))
  atom_trans _ _ _ h g = cc

  row_trans : (q r v : Row) → row_match q r ≡ true → row_match r v ≡ true → row_match q v ≡ true
  row_trans row_end row_end row_end h g = refl
  row_trans (row_more x q) (row_more y r) (row_more z v) h g =
      both (atom_match x z) (row_match q v)
      (atom_trans x y z (true_left (atom_match x y) (row_match q r) h) (true_left (atom_match y z) (row_match r v) g))
      (row_trans q r v (true_right (atom_match x y) (row_match q r) h) (true_right (atom_match y z) (row_match r v) g))
  row_trans _ _ _ h g = cc

pub arrays_symm : (a b : Array) → arrays_match a b ≡ arrays_match b a
arrays_symm a b = sym (boxed_match a b) ∙ atom_symm (boxed a) (boxed b) ∙ boxed_match b a

pub arrays_trans : (a b c : Array) → arrays_match a b ≡ true → arrays_match b c ≡ true → arrays_match a c ≡ true
arrays_trans a b c h g = sym (boxed_match a c) ∙ atom_trans (boxed a) (boxed b) (boxed c) (boxed_match a b ∙ h) (boxed_match b c ∙ g)

-- what holds of the first place that passes
kept_passes : (b : Bool) (p : ℕ → Bool) (a n d : ℕ) (rest : List ℕ) → p a ≡ b → (get_or rest 0 d < d → p (get_or rest 0 d) ≡ true) → get_or (keep b a rest) 0 d < d → p (get_or (keep b a rest) 0 d) ≡ true
kept_passes true p a n d rest e h l = e
kept_passes false p a n d rest e h l = h l

passes_from : (p : ℕ → Bool) (a n d : ℕ) → get_or (filter p (range_with_len a n)) 0 d < d → p (get_or (filter p (range_with_len a n)) 0 d) ≡ true
passes_from p a zero d l = absurd (omega arith)
passes_from p a (suc n) d l = kept_passes (p a) p a n d (filter p (range_with_len (a + 1) n)) refl (passes_from p (a + 1) n d) l

pub first_passes : (p : ℕ → Bool) (n : ℕ) → first_of p n < n → p (first_of p n) ≡ true
first_passes p n h = passes_from p 0 n n h

kept_before : (b : Bool) (p : ℕ → Bool) (a i d : ℕ) (rest : List ℕ) → p a ≡ b → a ≤ i → p i ≡ true → (a + 1 ≤ i → get_or rest 0 d ≤ i) → get_or (keep b a rest) 0 d ≤ i
kept_before true p a i d rest e l here h = l
kept_before false p a i d rest e l here h = elim (cases_lt a i) [
  | inl less ↦ h (omega arith)
  | inr more ↦ let same : a ≡ i = omega arith in absurd (true≢false (sym here ∙ ap p (sym same) ∙ e))
]

before_from : (p : ℕ → Bool) (a n i d : ℕ) → a ≤ i → i < a + n → p i ≡ true → get_or (filter p (range_with_len a n)) 0 d ≤ i
before_from p a zero i d l u here = absurd (omega arith)
before_from p a (suc n) i d l u here =
    kept_before (p a) p a i d (filter p (range_with_len (a + 1) n)) refl l here (λ m. before_from p (a + 1) n i d m (omega arith) here)

pub first_before : (p : ℕ → Bool) (n i : ℕ) → i < n → p i ≡ true → first_of p n ≤ i
first_before p n i h here = before_from p 0 n i n (omega arith) (omega arith) here

same_answers : (s t : Bool) → (s ≡ true → t ≡ true) → (t ≡ true → s ≡ true) → s ≡ t
same_answers true t f g = sym (f refl)
same_answers false true f g = g refl
same_answers false false f g = refl

-- an item of the nub matches the items whose first it is
class_is : (y : Array) (i j : ℕ) → i < tally y.shape → j < tally y.shape → first_item y (item_of y i) ≡ i → arrays_match (item_of y i) (item_of y j) ≡ nat_eq (first_item y (item_of y j)) i
class_is y i j hi hj own =
    same_answers (arrays_match (item_of y i) (item_of y j)) (nat_eq (first_item y (item_of y j)) i)
    (λ h.
    let low : first_item y (item_of y j) ≤ i = first_before (λ m. arrays_match (item_of y m) (item_of y j)) (tally y.shape) i hi h in
    let there : arrays_match (item_of y (first_item y (item_of y j))) (item_of y j) ≡ true = first_passes (λ m. arrays_match (item_of y m) (item_of y j)) (tally y.shape) (omega arith) in
    let back : arrays_match (item_of y (first_item y (item_of y j))) (item_of y i) ≡ true =
    arrays_trans (item_of y (first_item y (item_of y j))) (item_of y j) (item_of y i) there (arrays_symm (item_of y j) (item_of y i) ∙ h) in
    let high : first_item y (item_of y i) ≤ first_item y (item_of y j) = first_before (λ m. arrays_match (item_of y m) (item_of y i)) (tally y.shape) (first_item y (item_of y j)) (omega arith) back in
    eq-eqb (first_item y (item_of y j)) i (omega arith))
    (λ e.
    let same : first_item y (item_of y j) ≡ i = eqb-true (first_item y (item_of y j)) i e in
    ap (λ m. arrays_match (item_of y m) (item_of y j)) (sym same) ∙ first_passes (λ m. arrays_match (item_of y m) (item_of y j)) (tally y.shape) (omega arith))

-- the rows of the items of a nub
record IsOwn (y : Array) (i : ℕ) : Type 0 where
  low : i < tally y.shape
  own : first_item y (item_of y i) ≡ i

own_kept : (y : Array) (b : Bool) (a : ℕ) (rest : List ℕ) → is_first y a ≡ b → a < tally y.shape → All (IsOwn y) rest → All (IsOwn y) (keep b a rest)
own_kept y true a rest e l h = All-cons (IsOwn y) a rest (record { low = l; own = eqb-true (first_item y (item_of y a)) a e }) h
own_kept y false a rest e l h = h

own_from : (y : Array) (a n : ℕ) → a + n ≤ tally y.shape → All (IsOwn y) (filter (is_first y) (range_with_len a n))
own_from y a zero h = All-nil (IsOwn y)
own_from y a (suc n) h = own_kept y (is_first y a) a (filter (is_first y) (range_with_len (a + 1) n)) refl (omega arith) (own_from y (a + 1) n (omega arith))

row_is : (y : Array) (i : ℕ) → IsOwn y i → map (λ b. number (pos b)) (class_row i (map (λ k. pos (first_item y (item_of y k))) (places (tally y.shape)))) ≡ map (λ j. bit (arrays_match (item_of y i) (item_of y j))) (places (tally y.shape))
row_is y i h =
    let low : i < tally y.shape = h.low in
    ap (map (λ b. number (pos b))) (map_map (λ z. one_where (int_eq z (pos i))) (λ k. pos (first_item y (item_of y k))) (places (tally y.shape)))
    ∙ map_map (λ b. number (pos b)) (λ k. one_where (int_eq (pos (first_item y (item_of y k))) (pos i))) (places (tally y.shape))
    ∙ map_places (λ k. bit (int_eq (pos (first_item y (item_of y k))) (pos i))) (λ j. bit (arrays_match (item_of y i) (item_of y j))) (tally y.shape)
    (λ j l. ap bit (same_pos (first_item y (item_of y j)) i ∙ sym (class_is y i j low l h.own)))

rows_are : (y : Array) (ks : List ℕ) → All (IsOwn y) ks → map (λ b. number (pos b)) (class_rows ks (map (λ k. pos (first_item y (item_of y k))) (places (tally y.shape)))) ≡ flat_map (λ i. map (λ j. bit (arrays_match (item_of y i) (item_of y j))) (places (tally y.shape))) ks
rows_are y [] h = refl
rows_are y (i ∷ ks) h =
    let zs : List ℤ = map (λ k. pos (first_item y (item_of y k))) (places (tally y.shape)) in
    map-append (λ b. number (pos b)) (class_row i zs) (class_rows ks zs)
    ∙ ap (λ r. r ++ map (λ b. number (pos b)) (class_rows ks (map (λ k. pos (first_item y (item_of y k))) (places (tally y.shape))))) (row_is y i (All-head (IsOwn y) i ks h))
    ∙ ap (λ r. map (λ j. bit (arrays_match (item_of y i) (item_of y j))) (places (tally y.shape)) ++ r) (rows_are y ks (All-tail (IsOwn y) i ks h))

-- the bits that were found
pub classes : (y : Array) (zs : List ℤ) (ks bits : List ℕ) → zs ≡ map (λ k. pos (first_item y (item_of y k))) (places (tally y.shape)) → ks ≡ firsts y → bits ≡ class_rows ks zs →
    map (λ b. number (pos b)) bits ≡ flat_map (λ i. map (λ j. bit (arrays_match (item_of y i) (item_of y j))) (places (tally y.shape))) (firsts y)
classes y zs ks bits ez ek e =
    ap (map (λ b. number (pos b))) (e ∙ ap (λ js. class_rows js zs) ek ∙ ap (class_rows (firsts y)) ez) ∙ rows_are y (firsts y) (own_from y 0 (tally y.shape) (omega arith))

pub length-class_rows : (ks : List ℕ) (zs : List ℤ) → length (class_rows ks zs) ≡ length ks * length zs
length-class_rows [] zs = omega arith
length-class_rows (i ∷ ks) zs =
    length-append (class_row i zs) (class_rows ks zs) ∙ omega (arith, length-map zs (λ z. one_where (int_eq z (pos i))), length-class_rows ks zs)

low_bit : (b : Bool) → one_where b < 2
low_bit true = omega arith
low_bit false = omega arith

low_row : (i : ℕ) (zs : List ℤ) → All (λ b. b < 2) (class_row i zs)
low_row i [] = All-nil (λ b. b < 2)
low_row i (z ∷ zs) = All-cons (λ b. b < 2) (one_where (int_eq z (pos i))) (class_row i zs) (low_bit (int_eq z (pos i))) (low_row i zs)

low_rows : (ks : List ℕ) (zs : List ℤ) → All (λ b. b < 2) (class_rows ks zs)
low_rows [] zs = All-nil (λ b. b < 2)
low_rows (i ∷ ks) zs = All-append (λ b. b < 2) (class_row i zs) (class_rows ks zs) (low_row i zs) (low_rows ks zs)

pub class_low : (ks bits : List ℕ) (zs : List ℤ) → bits ≡ class_rows ks zs → All (λ b. b < 2) bits
class_low ks bits zs e = subst (All (λ b. b < 2)) (sym e) (low_rows ks zs)

length-classes : (y : Array) (ks : List ℕ) → length (flat_map (λ i. map (λ j. bit (arrays_match (item_of y i) (item_of y j))) (places (tally y.shape))) ks) ≡ length ks * tally y.shape
length-classes y [] = omega arith
length-classes y (i ∷ ks) =
    length-append (map (λ j. bit (arrays_match (item_of y i) (item_of y j))) (places (tally y.shape))) (flat_map (λ n. map (λ j. bit (arrays_match (item_of y n) (item_of y j))) (places (tally y.shape))) ks)
    ∙ omega (arith, length-map-range_with_len (λ j. bit (arrays_match (item_of y i) (item_of y j))) 0 (tally y.shape), length-classes y ks)

pub class_too_many : (y : Array) → 4194304 < length (firsts y) * tally y.shape → self_classify y ≡ Err Limit
class_too_many y h =
    many_beyond (record {
      kind = Number;
      shape = length (firsts y) ∷ tally y.shape ∷ [];
      atoms = flat_map (λ i. map (λ j. bit (arrays_match (item_of y i) (item_of y j))) (places (tally y.shape))) (firsts y);
    }) (omega (arith, length-classes y (firsts y)))

pub two_axes : (a b : ℕ) → product (a ∷ b ∷ []) ≡ a * b
two_axes a b = ap (λ n. a * n) (mul-one b)

pub many_places : (y : Array) (zs : List ℤ) → zs ≡ map (λ k. pos (first_item y (item_of y k))) (places (tally y.shape)) → length zs ≡ tally y.shape
many_places y zs e = ap length e ∙ length-map-range_with_len (λ k. pos (first_item y (item_of y k))) 0 (tally y.shape)
