-- Two nouns beside each other: their rank, their items, and their kind.
use Rattle.std.proofs.Common.{◌≡◌, ◌<◌, ◌≤◌, ◌+◌, ◌-◌, ◌*◌, ℕ, max, Bool, true, false, ◌&&◌, nat_eq, cond, List, [], ◌∷◌, ◌++◌, length, take, drop, replicate, get_or, arith, refl, sym, ap, ◌∙◌, subst, Option, Some, None, Err, Result, lit≤}
use Prim.Native.Nat.{zero, suc}
use Rattle.std.proofs.Math.Dec.{eqb-suc-zero}
use Rattle.std.specs.List.{All, list_any}
use Rattle.std.proofs.lemmas.List.Elements.{All-head}
use Rattle.std.proofs.lemmas.List.{length-drop, length-take, get_or-take, ext_get_or}
use Rattle.j_definitions.specs.Array.{Array, Atom, product, tally, fill_atom, IsNoun}
use Rattle.j_definitions.specs.Limits.{limited}
use Rattle.j_definitions.specs.declared.Kind.{Kind}
use Rattle.j_definitions.specs.declared.Fault.{Fault}
use Rattle.j_definitions.specs.declared.Fault.TheVariants.{Domain}
use Rattle.j_noun.specs.declared.refusal.Refusal.{Refusal}
use Rattle.j_noun.specs.Refused.{OrWanting}
use Rattle.j_rank.specs.Assembly.{with_rank, greater_axes, padded, same_kind, joined_kind, one_kind, kinds_with_atoms}
use Rattle.j_rank.specs.Joined.{Joins}
use Rattle.j_rank.specs.Places.{IsUnder}
use Rattle.j_rank.proofs.Joining.{same_is}
use Rattle.j_rank.proofs.Paddings.{padded_same}
use Rattle.j_rank.proofs.Products.{is_zero, product_zero, product_some}
use Rattle.j_rank.proofs.Widest.{length-with_rank, with_rank_same, length-greater_axes}
use Rattle.j_joining.specs.Joining.{repeated, shape_beside, atoms_beside, one_item, spread, joined, joined_as, append}
use Rattle.j_joining.specs.Brought.{brought, Fits, IsGroup, groups, two_kinds, is_bare, rank_beside, left_axes, right_axes, item_beside, left_group, right_group, both_groups}
use Rattle.j_joining.proofs.Joinings.{length-repeated}

pub rank_is : (s t : List ℕ) → rank_beside s t ≡ max (max (length s) (length t)) 1
rank_is [] [] = refl
rank_is [] (q ∷ t) = omega arith
rank_is (p ∷ s) [] = omega arith
rank_is (p ∷ s) (q ∷ t) = omega arith

max_flip : (m n : ℕ) → max m n ≡ max n m
max_flip m n = omega arith

greater_flip : (s t : List ℕ) → greater_axes s t ≡ greater_axes t s
greater_flip [] [] = refl
greater_flip [] (n ∷ t) = refl
greater_flip (m ∷ s) [] = refl
greater_flip (m ∷ s) (n ∷ t) = ap (λ k. k ∷ greater_axes s t) (max_flip m n) ∙ ap (λ r. max n m ∷ r) (greater_flip s t)

pub greater_self : (s : List ℕ) → greater_axes s s ≡ s
greater_self [] = refl
greater_self (m ∷ s) = let e : max m m ≡ m = omega arith in ap (λ k. k ∷ greater_axes s s) e ∙ ap (λ r. m ∷ r) (greater_self s)

-- the right shape is the left one of the two the other way round
pub right_axes_is : (s t : List ℕ) → right_axes s t ≡ left_axes t s
right_axes_is s t = ap (λ n. with_rank n (shape_beside (one_item s) t)) (max_flip (length (shape_beside (one_item t) s)) (length (shape_beside (one_item s) t)))

pub left_axes_is : (s t : List ℕ) → left_axes s t ≡ right_axes t s
left_axes_is s t = sym (right_axes_is t s)

pub right_group_is : (s t : List ℕ) → right_group s t ≡ left_group t s
right_group_is s t =
    ap (λ r. tally r ∷ item_beside s t) (right_axes_is s t)
    ∙ ap (λ r. tally (left_axes t s) ∷ r)
    (greater_flip (drop 1 (left_axes s t)) (drop 1 (right_axes s t)) ∙ ap (λ r. greater_axes (drop 1 r) (drop 1 (left_axes s t))) (right_axes_is s t)
    ∙ ap (λ r. greater_axes (drop 1 (left_axes t s)) (drop 1 r)) (left_axes_is s t))

pub length-left_axes : (s t : List ℕ) → length (left_axes s t) ≡ rank_beside s t
length-left_axes s t = length-with_rank (rank_beside s t) (shape_beside (one_item t) s) (omega arith)

pub length-right_axes : (s t : List ℕ) → length (right_axes s t) ≡ rank_beside s t
length-right_axes s t = length-with_rank (rank_beside s t) (shape_beside (one_item s) t) (omega arith)

items_alike : (s t : List ℕ) → length (drop 1 (left_axes s t)) ≡ length (drop 1 (right_axes s t))
items_alike s t = omega (arith, length-left_axes s t, length-right_axes s t, length-drop 1 (left_axes s t), length-drop 1 (right_axes s t))

pub length-left_group : (s t : List ℕ) → length (left_group s t) ≡ rank_beside s t
length-left_group s t =
    omega (arith, length-greater_axes (drop 1 (left_axes s t)) (drop 1 (right_axes s t)) (items_alike s t), length-drop 1 (left_axes s t), length-left_axes s t, rank_is s t)

with_tally : (s : List ℕ) → 1 ≤ length s → s ≡ tally s ∷ drop 1 s
with_tally [] h = absurd (omega arith)
with_tally (n ∷ s) h = refl

under_greater : (s t : List ℕ) → length s ≡ length t → IsUnder s (greater_axes s t)
under_greater [] t h = tt
under_greater (m ∷ s) [] h = absurd (omega arith)
under_greater (m ∷ s) (n ∷ t) h = (omega arith, under_greater s t (omega arith))

left_under : (s t : List ℕ) → IsUnder (left_axes s t) (left_group s t)
left_under s t =
    let whole : left_axes s t ≡ tally (left_axes s t) ∷ drop 1 (left_axes s t) = with_tally (left_axes s t) (omega (arith, length-left_axes s t, rank_is s t)) in
    let under : IsUnder (tally (left_axes s t) ∷ drop 1 (left_axes s t)) (left_group s t) = (omega arith, under_greater (drop 1 (left_axes s t)) (drop 1 (right_axes s t)) (items_alike s t)) in
    subst (λ (r : List ℕ). IsUnder r (left_group s t)) (sym whole) under

pub left_fits : (s t : List ℕ) → Fits (left_group s t) s
left_fits [] t = tt
left_fits (p ∷ s) t = subst (λ (n : ℕ). IsUnder (with_rank n (p ∷ s)) (left_group (p ∷ s) t)) (sym (length-left_group (p ∷ s) t)) (left_under (p ∷ s) t)

-- an atom becomes one item of the other
atom_axes : (t : List ℕ) → left_axes [] t ≡ one_item t
atom_axes [] = refl
atom_axes (q ∷ t) = with_rank_same (rank_beside [] (q ∷ t)) (1 ∷ t) (omega arith)

other_axes : (q : ℕ) (t : List ℕ) → right_axes [] (q ∷ t) ≡ q ∷ t
other_axes q t = with_rank_same (rank_beside [] (q ∷ t)) (q ∷ t) (omega arith)

atom_group : (t : List ℕ) → left_group [] t ≡ one_item t
atom_group [] = refl
atom_group (q ∷ t) =
    ap (λ r. tally r ∷ greater_axes (drop 1 r) (drop 1 (right_axes [] (q ∷ t)))) (atom_axes (q ∷ t)) ∙ ap (λ r. 1 ∷ greater_axes t (drop 1 r)) (other_axes q t)
    ∙ ap (λ r. 1 ∷ r) (greater_self t)

-- a noun brought to its shape is its items padded
pub left_brought : (z : Atom) (s t : List ℕ) (xs : List Atom) → length xs ≡ product s → brought z (left_group s t) s xs ≡ padded z (left_axes s t) (left_group s t) (atoms_beside (one_item t) s xs)
left_brought z [] t xs e =
    let atoms : List Atom = repeated (product (one_item t)) xs in
    ap (λ r. repeated (product r) xs) (atom_group t) ∙ sym (padded_same z (one_item t) atoms (length-repeated (product (one_item t)) xs (omega (arith, e))))
    ∙ ap (λ r. padded z r (one_item t) atoms) (sym (atom_axes t)) ∙ ap (λ r. padded z (left_axes [] t) r atoms) (sym (atom_group t))
left_brought z (p ∷ s) t xs e = ap (λ n. padded z (with_rank n (p ∷ s)) (left_group (p ∷ s) t) xs) (length-left_group (p ∷ s) t)

pub right_brought : (z : Atom) (s t : List ℕ) (ys : List Atom) → length ys ≡ product t → brought z (right_group s t) t ys ≡ padded z (right_axes s t) (right_group s t) (atoms_beside (one_item s) t ys)
right_brought z s t ys e =
    ap (λ r. brought z r t ys) (right_group_is s t) ∙ left_brought z t s ys e
    ∙ ap (λ r. padded z r (left_group t s) (atoms_beside (one_item s) t ys)) (sym (right_axes_is s t))
    ∙ ap (λ r. padded z (right_axes s t) r (atoms_beside (one_item s) t ys)) (sym (right_group_is s t))

-- both together are the items joined
pub groups_joined : (k : Kind) (x y : Array) → IsNoun x → IsNoun y →
    groups k (both_groups x.shape y.shape) x (left_group x.shape y.shape) y (right_group x.shape y.shape) ≡ joined k (spread (one_item y.shape) x) (spread (one_item x.shape) y)
groups_joined k x y noun other =
    let s : List ℕ = x.shape in
    let t : List ℕ = y.shape in
    ap (λ xs. let it : Array = record { kind = k; shape = both_groups s t; atoms = xs ++ brought (fill_atom k) (right_group s t) t y.atoms } in it) (left_brought (fill_atom k) s t x.atoms noun.as_many)
    ∙ ap (λ ys. let it : Array = record { kind = k; shape = both_groups s t; atoms = padded (fill_atom k) (left_axes s t) (left_group s t) (atoms_beside (one_item t) s x.atoms) ++ ys } in it)
    (right_brought (fill_atom k) s t y.atoms other.as_many)

pub groups_sizes : (s t : List ℕ) → product (both_groups s t) ≡ product (left_group s t) + product (right_group s t)
groups_sizes s t = omega arith

-- the kind of two nouns
pub kind_of_two : (a b : Array) → joined_kind (a ∷ b ∷ []) ≡ two_kinds a.kind (nat_eq (length a.atoms) 0) b.kind (nat_eq (length b.atoms) 0)
kind_of_two a b =
    elim (nat_eq (length a.atoms) 0) as (λ p. one_kind (cond p (kinds_with_atoms (b ∷ [])) (a.kind ∷ kinds_with_atoms (b ∷ []))) (a ∷ b ∷ []) ≡ two_kinds a.kind p b.kind (nat_eq (length b.atoms) 0)) [
      | true ↦ elim (nat_eq (length b.atoms) 0) as (λ q. one_kind (cond q [] (b.kind ∷ [])) (a ∷ b ∷ []) ≡ two_kinds a.kind true b.kind q) [
        | true ↦ refl
        | false ↦ refl
      ]
      | false ↦ elim (nat_eq (length b.atoms) 0) as (λ q. one_kind (a.kind ∷ cond q [] (b.kind ∷ [])) (a ∷ b ∷ []) ≡ two_kinds a.kind false b.kind q) [
        | true ↦ refl
        | false ↦ elim (same_kind a.kind b.kind) as (λ r. (let o : Option Kind = cond (r && true) (Some a.kind) None in o) ≡ cond r (Some a.kind) None) [
          | true ↦ refl
          | false ↦ refl
        ]
      ]
    ]

pub left_kind : (k l j : Kind) (b c : Bool) → two_kinds k b l c ≡ Some j → b ≡ false → k ≡ j
left_kind k l j true c e h = cc
left_kind k l j false true e h = cc
left_kind k l j false false e h = elim (same_kind k l) as (λ r. (let o : Option Kind = cond r (Some k) None in o) ≡ Some j → k ≡ j) [ true ↦ λ g. cc | false ↦ λ g. cc ] e

pub right_kind : (k l j : Kind) (b c : Bool) → two_kinds k b l c ≡ Some j → c ≡ false → l ≡ j
right_kind k l j b true e h = cc
right_kind k l j true false e h = cc
right_kind k l j false false e h =
    elim (same_kind k l) as (λ r. same_kind k l ≡ r → (let o : Option Kind = cond r (Some k) None in o) ≡ Some j → l ≡ j) [ true ↦ λ q g. same_is k l q ∙ (let f : k ≡ j = cc in f) | false ↦ λ q g. cc ] refl e

-- an item of the other has as many atoms as it has as a noun
one_item_atoms : (s t : List ℕ) (xs : List Atom) → atoms_beside (one_item t) s xs ≡ atoms_beside (drop 1 t) s xs
one_item_atoms [] t xs = let e : 1 * product (drop 1 t) ≡ product (drop 1 t) = omega arith in ap (λ n. repeated n xs) e
one_item_atoms (p ∷ s) t xs = refl

pub kind_beside : (x y : Array) → joined_kind (spread (one_item y.shape) x ∷ spread (one_item x.shape) y ∷ []) ≡ two_kinds x.kind (is_bare (drop 1 y.shape) x.shape x.atoms) y.kind (is_bare (drop 1 x.shape) y.shape y.atoms)
kind_beside x y =
    kind_of_two (spread (one_item y.shape) x) (spread (one_item x.shape) y)
    ∙ ap (λ xs. two_kinds x.kind (nat_eq (length xs) 0) y.kind (is_bare (one_item x.shape) y.shape y.atoms)) (one_item_atoms x.shape y.shape x.atoms)
    ∙ ap (λ ys. two_kinds x.kind (is_bare (drop 1 y.shape) x.shape x.atoms) y.kind (nat_eq (length ys) 0)) (one_item_atoms y.shape x.shape y.atoms)

pub not_none : (n : ℕ) → 0 < n → nat_eq n 0 ≡ false
not_none zero h = absurd (omega arith)
not_none (suc n) h = eqb-suc-zero n

some_beside : (s t : List ℕ) (xs : List Atom) → 0 < product (left_group s t) → 0 < length xs → is_bare (drop 1 t) s xs ≡ false
some_beside [] t xs h g = not_none (length (repeated (product (drop 1 t)) xs)) (omega (arith, ap product (atom_group t), length-repeated (product (drop 1 t)) xs g))
some_beside (p ∷ s) t xs h g = not_none (length xs) g

pub left_joins : (x y : Array) (k : Kind) → Some k ≡ two_kinds x.kind (is_bare (drop 1 y.shape) x.shape x.atoms) y.kind (is_bare (drop 1 x.shape) y.shape y.atoms) → 0 < product (left_group x.shape y.shape) → Joins k x
left_joins x y k e h = λ g. left_kind x.kind y.kind k (is_bare (drop 1 y.shape) x.shape x.atoms) (is_bare (drop 1 x.shape) y.shape y.atoms) (sym e) (some_beside x.shape y.shape x.atoms h g)

pub right_joins : (x y : Array) (k : Kind) → Some k ≡ two_kinds x.kind (is_bare (drop 1 y.shape) x.shape x.atoms) y.kind (is_bare (drop 1 x.shape) y.shape y.atoms) → 0 < product (right_group x.shape y.shape) → Joins k y
right_joins x y k e h = λ g. right_kind x.kind y.kind k (is_bare (drop 1 y.shape) x.shape x.atoms) (is_bare (drop 1 x.shape) y.shape y.atoms) (sym e)
    (some_beside y.shape x.shape y.atoms (subst (λ (r : List ℕ). 0 < product r) (right_group_is x.shape y.shape) h) g)

-- the ranks are within the limit
pub rank_few : (s t : List ℕ) → length s ≤ 32 → length t ≤ 32 → rank_beside s t ≤ 32
rank_few s t h g = omega (arith, rank_is s t)

-- each noun may be brought to its shape
pub left_is_group : (k : Kind) (x y : Array) → IsNoun x → IsNoun y → (0 < product (left_group x.shape y.shape) → Joins k x) → IsGroup k x (left_group x.shape y.shape)
left_is_group k x y noun other joins = record {
  rank = omega (arith, length-left_group x.shape y.shape, rank_is x.shape y.shape);
  few = omega (arith, length-left_group x.shape y.shape, rank_few x.shape y.shape noun.within.rank other.within.rank);
  fits = left_fits x.shape y.shape;
  joins = joins;
}

pub right_is_group : (k : Kind) (x y : Array) → IsNoun x → IsNoun y → (0 < product (right_group x.shape y.shape) → Joins k y) → IsGroup k y (right_group x.shape y.shape)
right_is_group k x y noun other joins =
    subst (λ (r : List ℕ). IsGroup k y r) (sym (right_group_is x.shape y.shape))
    (left_is_group k y x other noun (subst (λ (r : List ℕ). 0 < product r → Joins k y) (right_group_is x.shape y.shape) joins))

pub append_as : (x y : Array) (k : Kind) → Some k ≡ two_kinds x.kind (is_bare (drop 1 y.shape) x.shape x.atoms) y.kind (is_bare (drop 1 x.shape) y.shape y.atoms) → IsNoun x → IsNoun y →
    append x y ≡ limited (groups k (both_groups x.shape y.shape) x (left_group x.shape y.shape) y (right_group x.shape y.shape))
append_as x y k e noun other =
    ap (λ o. joined_as o (spread (one_item y.shape) x) (spread (one_item x.shape) y)) (kind_beside x y ∙ sym e)
    ∙ ap limited (sym (groups_joined k x y noun other))

pub append_refused : (x y : Array) → None ≡ two_kinds x.kind (is_bare (drop 1 y.shape) x.shape x.atoms) y.kind (is_bare (drop 1 x.shape) y.shape y.atoms) → append x y ≡ Err Domain
append_refused x y e = ap (λ o. joined_as o (spread (one_item y.shape) x) (spread (one_item x.shape) y)) (kind_beside x y ∙ sym e)

get_or-greater_axes : (s t : List ℕ) (k : ℕ) → length s ≡ length t → k < length s → get_or (greater_axes s t) k 0 ≡ max (get_or s k 0) (get_or t k 0)
get_or-greater_axes [] t k h g = absurd (omega arith)
get_or-greater_axes (m ∷ s) [] k h g = absurd (omega arith)
get_or-greater_axes (m ∷ s) (n ∷ t) zero h g = refl
get_or-greater_axes (m ∷ s) (n ∷ t) (suc k) h g = get_or-greater_axes s t k (omega arith) (omega arith)

pub all_greater : (s t lengths new : List ℕ) → length s ≡ length t → length s ≤ length lengths → new ≡ take (length s) lengths →
    ((k : ℕ) → k < length s → get_or lengths k 0 ≡ max (get_or s k 0) (get_or t k 0)) → new ≡ greater_axes s t
all_greater s t lengths new e h is each =
    is ∙ ext_get_or 0 (take (length s) lengths) (greater_axes s t) (omega (arith, length-take (length s) lengths, length-greater_axes s t e))
    (λ k g. let low : k < length s = omega (arith, length-take (length s) lengths) in get_or-take (length s) lengths k 0 low ∙ each k low ∙ sym (get_or-greater_axes s t k e low))

bare_as : (axes : List ℕ) (xs : List Atom) → 0 < length xs → (b : Bool) → list_any is_zero axes ≡ b → b ≡ is_bare axes [] xs
bare_as axes xs g true e = sym (ap (λ n. nat_eq n 0) (length-repeated (product axes) xs g ∙ product_zero axes e))
bare_as axes xs g false e = sym (not_none (length (repeated (product axes) xs)) (omega (arith, length-repeated (product axes) xs g, product_some axes e)))

-- an atom spread to a shape that holds a 0 is no more
pub atom_bare : (axes s : List ℕ) (xs : List Atom) (b : Bool) → s ≡ [] → length xs ≡ product s → b ≡ list_any is_zero axes → b ≡ is_bare axes s xs
atom_bare axes [] xs b e many h = bare_as axes xs (omega (arith, many)) b (sym h)
atom_bare axes (p ∷ s) xs b e many h = cc

tally_led : (j : ℕ) (s : List ℕ) → tally (replicate j 1 ++ s) ≤ max (tally s) 1
tally_led zero s = omega arith
tally_led (suc j) s = omega arith

pub tally_left : (s t : List ℕ) → tally (left_axes s t) ≤ max (tally s) 1
tally_left [] t = tally_led (rank_beside [] t - length (one_item t)) (one_item t)
tally_left (p ∷ s) t = tally_led (rank_beside (p ∷ s) t - length (p ∷ s)) (p ∷ s)

pub tally_right : (s t : List ℕ) → tally (right_axes s t) ≤ max (tally t) 1
tally_right s t = omega (arith, tally_left t s, ap tally (right_axes_is s t))

pub item_few : (s t item : List ℕ) → length s ≤ 32 → length t ≤ 32 → item ≡ item_beside s t → length item < 32
item_few s t item h g e = omega (arith, ap length e, length-left_group s t, rank_few s t h g)

short : (s : List ℕ) → All (λ n. n ≤ 4194304) s → tally s ≤ 4194304
short [] h = lit≤ tt
short (n ∷ s) h = All-head (λ m. m ≤ 4194304) n s h

pub first_short : (a : Array) → IsNoun a → tally a.shape ≤ 4194304
first_short a noun = short a.shape noun.within.axes

abbrev kind_by : Array → Array → List ℕ → List ℕ → Option Kind
kind_by x y l r = two_kinds x.kind (is_bare l x.shape x.atoms) y.kind (is_bare r y.shape y.atoms)

-- the kind by the axes of items
pub kind_by_items : (x y : Array) (s t l r : List ℕ) (o p : Option Kind) → p ≡ o → o ≡ two_kinds x.kind (is_bare l x.shape x.atoms) y.kind (is_bare r y.shape y.atoms) → s ≡ x.shape → t ≡ y.shape → l ≡ drop 1 t → r ≡ drop 1 s →
    p ≡ two_kinds x.kind (is_bare (drop 1 y.shape) x.shape x.atoms) y.kind (is_bare (drop 1 x.shape) y.shape y.atoms)
kind_by_items x y s t l r o p e f hs ht hl hr =
    e ∙ f ∙ ap (λ d. kind_by x y d r) (hl ∙ ap (drop 1) ht) ∙ ap (kind_by x y (drop 1 y.shape)) (hr ∙ ap (drop 1) hs)

-- what was made of the groups is what is said
pub append_made : (x y : Array) (k : Kind) (m : Result Array Refusal) (both l r : List ℕ) → Some k ≡ two_kinds x.kind (is_bare (drop 1 y.shape) x.shape x.atoms) y.kind (is_bare (drop 1 x.shape) y.shape y.atoms) → IsNoun x → IsNoun y →
    both ≡ both_groups x.shape y.shape → l ≡ left_group x.shape y.shape → r ≡ right_group x.shape y.shape → OrWanting (limited (groups k both x l y r)) m → OrWanting (append x y) m
append_made x y k m both l r e noun other eb el er h =
    let same : groups k both x l y r ≡ groups k (both_groups x.shape y.shape) x (left_group x.shape y.shape) y (right_group x.shape y.shape) =
    ap (λ b. groups k b x l y r) eb ∙ ap (λ b. groups k (both_groups x.shape y.shape) x b y r) el ∙ ap (groups k (both_groups x.shape y.shape) x (left_group x.shape y.shape) y) er in
    subst (λ (w : Result Array Fault). OrWanting w m) (ap limited same ∙ sym (append_as x y k e noun other)) h
