-- Orders of axes.
use Rattle.std.proofs.Common.{◌≡◌, ◌<◌, ◌≤◌, ◌+◌, ◌-◌, ◌*◌, ℕ, Bool, nat_eq, cond, List, [], ◌∷◌, length, map, drop, get_or, reverse, arith, refl, sym, ap, ◌∙◌, subst, zero-mul}
use Prim.Native.Nat.{zero, suc}
use Rattle.std.specs.List.{All, sum_by, range_with_len}
use Rattle.std.proofs.Math.Dec.{eqb-suc-zero}
use Rattle.std.proofs.lemmas.List.{drop_more, drop_all, length-map, length-reverse, get_or-reverse, same_lists, nil_from_length}
use Rattle.std.proofs.lemmas.List.FromFn.{length-range_with_len, get_or-range_with_len, length-map-range_with_len, get_or-map-range_with_len}
use Rattle.std.proofs.lemmas.List.Elements.{All-nil, All-cons}
use Rattle.std.proofs.lemmas.List.Sums.{sum_by-cons}
use Rattle.std.proofs.lemmas.List.Sorted.{All-permutation, sum_by-IsPermutation, IsPermutation-reverse}
use Rattle.j_definitions.specs.Array.{Array, Atom, product, IsNoun}
use Rattle.j_definitions.specs.Cells.{atom_at}
use Rattle.j_definitions.specs.declared.Kind.{Kind}
use Rattle.j_noun.specs.declared.noun.Atoms.{Atoms}
use Rattle.j_noun.specs.Held.{AreAtoms, array_kept, atoms_kept, kind_kept}
use Rattle.j_reshaping.specs.Axes.{places, axis_length, axis_step, axes_of, with_axes}
use Rattle.j_reshaping.specs.Steps.{reach, IsOrder, atoms_at}
use Rattle.j_reshaping.proofs.Walks.{places_many}

pub all_range : (a m n : ℕ) → a + m ≤ n → All (λ k. k < n) (range_with_len a m)
all_range a zero n h = All-nil (λ k. k < n)
all_range a (suc m) n h = All-cons (λ k. k < n) a (range_with_len (a + 1) m) (omega arith) (all_range (a + 1) m n (omega arith))

-- the axes in reverse are an order
pub reverse_order : (n : ℕ) → IsOrder n (reverse (axes_of n))
reverse_order n =
    let moved = IsPermutation-reverse (axes_of n) in
    record {
      within = All-permutation (λ a. a < n) (axes_of n) (reverse (axes_of n)) moved (all_range 0 n n (omega arith));
      each = λ w. sum_by-IsPermutation w (axes_of n) (reverse (axes_of n)) moved;
    }

abbrev pub down : ℕ → ℕ → List ℕ
down n k = map (λ j. n - 1 - j) (range_with_len 0 k)

-- the axes from the last on
pub down_all : (n k : ℕ) → k ≡ n → down n k ≡ reverse (axes_of n)
down_all n k e =
    ap (down n) e
    ∙ same_lists (down n n) (reverse (axes_of n)) (length-map-range_with_len (λ j. n - 1 - j) 0 n ∙ sym (length-reverse (axes_of n) ∙ length-range_with_len 0 n))
    (λ i d h.
    let within : i < n = omega (arith, length-map-range_with_len (λ j. n - 1 - j) 0 n) in
    let here : 0 + i ≡ i = omega arith in
    let last : 0 + (n - 1 - i) ≡ n - 1 - i = omega arith in
    get_or-map-range_with_len (λ j. n - 1 - j) 0 n i i d within here
    ∙ sym
    (get_or-reverse (axes_of n) i d (omega (arith, length-range_with_len 0 n)) ∙ ap (λ l. get_or (axes_of n) (l - 1 - i) d) (length-range_with_len 0 n)
    ∙ get_or-range_with_len 0 n (n - 1 - i) d (omega arith) ∙ last))

-- what one axis adds to the reach
abbrev way : List ℕ → ℕ → ℕ
way s a = (axis_length s a - 1) * axis_step s a

reach_sum : (s order : List ℕ) → reach (map (axis_length s) order) (map (axis_step s) order) ≡ sum_by (way s) order + 1
reach_sum s [] = refl
reach_sum s (a ∷ order) = omega (arith, reach_sum s order, sum_by-cons (way s) a order)

factors : (m q : ℕ) → 0 < m * q → (0 < m) × (0 < q)
factors zero q h = absurd (omega arith)
factors (suc m) zero h = absurd (omega arith)
factors (suc m) (suc q) h = (omega arith, omega arith)

span_more : (x p rest all : ℕ) → 0 < x → all ≡ (x - 1) * p + rest → rest + 1 ≡ p → all + 1 ≡ x * p
span_more zero p rest all h e r = absurd (omega arith)
span_more (suc x) p rest all h e r =
    let less : suc x - 1 ≡ x = omega arith in
    omega (arith, ap (λ k. k * p) less)

span : (s : List ℕ) (k m : ℕ) → k + m ≡ length s → 0 < product (drop k s) → sum_by (way s) (range_with_len k m) + 1 ≡ product (drop k s)
span s k zero e some = sym (ap product (drop_all k s (omega arith)))
span s k (suc m) e some =
    let parts : product (drop k s) ≡ get_or s k 0 * product (drop (k + 1) s) = ap product (drop_more s k 0 (omega arith)) in
    let both = factors (get_or s k 0) (product (drop (k + 1) s)) (omega arith) in
    span_more (get_or s k 0) (product (drop (k + 1) s)) (sum_by (way s) (range_with_len (k + 1) m)) (sum_by (way s) (range_with_len k (suc m))) both.0
    (sum_by-cons (way s) k (range_with_len (k + 1) m)) (span s (k + 1) m (omega arith) both.1) ∙ sym parts

-- all axes of an order reach the last atom
pub reach_order : (s order : List ℕ) → IsOrder (length s) order → 0 < product s → reach (map (axis_length s) order) (map (axis_step s) order) ≡ product s
reach_order s order o some = reach_sum s order ∙ ap (λ n. n + 1) (o.each (way s)) ∙ span s 0 (length s) (omega arith) some

abbrev is_none : ℕ → ℕ
is_none n = cond (nat_eq n 0) 1 0

abbrev none_along : List ℕ → ℕ → ℕ
none_along s a = is_none (axis_length s a)

none_here : (n p rest all : ℕ) → n * p ≡ 0 → all ≡ is_none n + rest → (p ≡ 0 → 0 < rest) → 0 < all
none_here zero p rest all e is h = omega arith
none_here (suc n) p rest all e is h =
    let none : p ≡ 0 = omega arith in
    let more : 0 < rest = h none in
    omega arith

none_somewhere : (s : List ℕ) (k m : ℕ) → k + m ≡ length s → product (drop k s) ≡ 0 → 0 < sum_by (none_along s) (range_with_len k m)
none_somewhere s k zero e none = absurd (omega (arith, ap product (drop_all k s (omega arith))))
none_somewhere s k (suc m) e none =
    let parts : product (drop k s) ≡ get_or s k 0 * product (drop (k + 1) s) = ap product (drop_more s k 0 (omega arith)) in
    none_here (get_or s k 0) (product (drop (k + 1) s)) (sum_by (none_along s) (range_with_len (k + 1) m)) (sum_by (none_along s) (range_with_len k (suc m))) (sym parts ∙ none)
    (sum_by-cons (none_along s) k (range_with_len (k + 1) m)) (none_somewhere s (k + 1) m (omega arith))

none_times : (n p rest : ℕ) → 0 < is_none n + rest → (0 < rest → p ≡ 0) → n * p ≡ 0
none_times zero p rest h g = zero-mul p
none_times (suc n) p rest h g =
    let some : is_none (suc n) ≡ 0 = ap (λ (b : Bool). cond b 1 0) (eqb-suc-zero n) in
    let none : p ≡ 0 = g (omega arith) in
    omega (arith, ap (λ q. suc n * q) none)

none_of_all : (s order : List ℕ) → 0 < sum_by (none_along s) order → product (map (axis_length s) order) ≡ 0
none_of_all s [] h = absurd (omega arith)
none_of_all s (a ∷ order) h =
    none_times (axis_length s a) (product (map (axis_length s) order)) (sum_by (none_along s) order) (omega (arith, sum_by-cons (none_along s) a order)) (none_of_all s order)

-- no atoms in any order
pub none_kept : (s order : List ℕ) → IsOrder (length s) order → product s ≡ 0 → product (map (axis_length s) order) ≡ 0
none_kept s order o none = none_of_all s order (omega (arith, o.each (none_along s), none_somewhere s 0 (length s) (omega arith) none))

same_many : (s order : List ℕ) → length (map (axis_length s) order) ≡ length (map (axis_step s) order)
same_many s order = length-map order (axis_length s) ∙ sym (length-map order (axis_step s))

abbrev pub in_order_of : List ℕ → List ℕ → List ℕ
in_order_of s order = places 0 (map (axis_length s) order) (map (axis_step s) order)

-- as many atoms as the new axes have
pub ordered_many : (s order shape : List ℕ) (k : Atoms) (y : Array) → shape ≡ map (axis_length s) order → AreAtoms k y.kind (atoms_at y.atoms (in_order_of s order)) → length (atoms_kept k) ≡ product shape
ordered_many s order shape k y is are =
    ap length are.atoms ∙ length-map (in_order_of s order) (atom_at y.atoms) ∙ places_many 0 (map (axis_length s) order) (map (axis_step s) order) (same_many s order)
    ∙ ap product (sym is)

-- the noun that is made
pub ordered_made : (y : Array) (order shape : List ℕ) (k : Atoms) → shape ≡ map (axis_length y.shape) order → AreAtoms k y.kind (atoms_at y.atoms (in_order_of y.shape order)) → array_kept shape k ≡ with_axes order y
ordered_made y order shape k is are =
    let atoms : atoms_kept k ≡ atoms_at y.atoms (in_order_of y.shape order) = are.atoms in
    let kind : kind_kept k ≡ y.kind = are.kind in
    cc

-- no atoms are at no places
pub none_at : (y : Array) (order : List ℕ) → IsNoun y → IsOrder (length y.shape) order → y.atoms ≡ [] → atoms_at y.atoms (in_order_of y.shape order) ≡ []
none_at y order noun o none =
    let no_product : product y.shape ≡ 0 = sym noun.as_many ∙ ap length none in
    let no_places : in_order_of y.shape order ≡ [] = nil_from_length (in_order_of y.shape order) (places_many 0 (map (axis_length y.shape) order) (map (axis_step y.shape) order) (same_many y.shape order) ∙ none_kept y.shape order o no_product) in
    ap (atoms_at y.atoms) no_places

-- no atoms, in an order
pub none_are : (y : Array) (order : List ℕ) (k : Atoms) (j : Kind) → IsNoun y → IsOrder (length y.shape) order → y.atoms ≡ [] → j ≡ y.kind → AreAtoms k j [] →
    AreAtoms k y.kind (atoms_at y.atoms (in_order_of y.shape order))
none_are y order k j noun o none same are =
    let here : AreAtoms k y.kind [] = subst (λ (i : Kind). AreAtoms k i []) same are in
    subst (λ (xs : List Atom). AreAtoms k y.kind xs) (sym (none_at y order noun o none)) here

-- all places of an order are within the atoms
pub reach_fits : (y : Array) (order lengths steps : List ℕ) → IsNoun y → IsOrder (length y.shape) order → 0 < length y.atoms → lengths ≡ map (axis_length y.shape) order → steps ≡ map (axis_step y.shape) order →
    reach lengths steps ≤ length y.atoms
reach_fits y order lengths steps noun o some e f =
    let all : reach lengths steps ≡ product y.shape = ap (λ s. reach s steps) e ∙ ap (reach (map (axis_length y.shape) order)) f ∙ reach_order y.shape order o (omega (arith, noun.as_many)) in
    omega (arith, noun.as_many)

pub made_many : (y : Array) (order lengths steps shape : List ℕ) (k : Atoms) → AreAtoms k y.kind (atoms_at y.atoms (places 0 lengths steps)) → lengths ≡ shape → shape ≡ map (axis_length y.shape) order →
    steps ≡ map (axis_step y.shape) order → length (atoms_kept k) ≡ product shape
made_many y order lengths steps shape k are e is f =
    let rank : length lengths ≡ length steps = ap length (e ∙ is) ∙ same_many y.shape order ∙ sym (ap length f) in
    ap length are.atoms ∙ length-map (places 0 lengths steps) (atom_at y.atoms) ∙ places_many 0 lengths steps rank ∙ ap product e
