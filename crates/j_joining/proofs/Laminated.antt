-- Two nouns as two items.
use Rattle.std.proofs.Common.{◌≡◌, ◌<◌, ◌≤◌, ◌+◌, ℕ, max, false, List, [], ◌∷◌, ◌++◌, length, replicate, arith, refl, sym, ap, ◌∙◌, subst, append-nil, Option, Some, None, Err, Result}
use Prim.Native.Nat.{zero, suc}
use Rattle.std.specs.List.{All}
use Rattle.std.proofs.lemmas.List.Elements.{All-head, All-tail}
use Rattle.j_definitions.specs.Array.{Array, Atom, product, fill_atom, IsNoun}
use Rattle.j_definitions.specs.Limits.{limited}
use Rattle.j_definitions.specs.declared.Kind.{Kind}
use Rattle.j_definitions.specs.declared.Fault.{Fault}
use Rattle.j_definitions.specs.declared.Fault.TheVariants.{Domain, Limit}
use Rattle.j_noun.specs.declared.refusal.Refusal.{Refusal}
use Rattle.j_noun.specs.Refused.{OrWanting}
use Rattle.j_rank.specs.Assembly.{with_rank, greater_axes, greatest_axes, greatest_rank, common_shape, padded, joined_kind, assembled, assembled_as}
use Rattle.j_rank.specs.Places.{IsUnder}
use Rattle.j_rank.proofs.Assembled.{assemble_as, rank_beyond}
use Rattle.j_rank.proofs.Paddings.{padded_same}
use Rattle.j_rank.proofs.Widest.{length-with_rank, with_rank_same, length-greater_axes, all_under}
use Rattle.j_joining.specs.Joining.{repeated, shape_beside, atoms_beside, greater_rank, spread, laminate}
use Rattle.j_joining.specs.Brought.{brought, Fits, IsGroup, groups, two_kinds, is_bare, common_by, common_beside}
use Rattle.j_joining.proofs.Joinings.{length-repeated}
use Rattle.j_joining.proofs.Beside.{greater_self, not_none, kind_of_two, left_kind, right_kind}

abbrev pair : Array → Array → List Array
pair x y = spread y.shape x ∷ spread x.shape y ∷ []

zeros_yield : (n : ℕ) (s : List ℕ) → length s ≡ n → greater_axes (replicate n 0) s ≡ s
zeros_yield zero [] e = refl
zeros_yield zero (m ∷ s) e = absurd (omega arith)
zeros_yield (suc n) [] e = absurd (omega arith)
zeros_yield (suc n) (m ∷ s) e = let f : max 0 m ≡ m = omega arith in ap (λ k. k ∷ greater_axes (replicate n 0) s) f ∙ ap (λ r. m ∷ r) (zeros_yield n s (omega arith))

-- the common shape of two nouns
common_of_two : (a b : Array) → common_shape (a ∷ b ∷ []) ≡ greater_axes (with_rank (greater_rank a.shape b.shape) a.shape) (with_rank (greater_rank a.shape b.shape) b.shape)
common_of_two a b =
    let rank : greatest_rank (a ∷ b ∷ []) ≡ greater_rank a.shape b.shape = omega arith in
    let n : ℕ = greater_rank a.shape b.shape in
    ap (λ m. greatest_axes m (a ∷ b ∷ [])) rank
    ∙ ap (λ s. greater_axes s (with_rank n b.shape)) (zeros_yield n (with_rank n a.shape) (length-with_rank n a.shape (omega arith)))

-- repeated atoms don't change the rank
spread_rank : (s t : List ℕ) → greater_rank (shape_beside t s) (shape_beside s t) ≡ greater_rank s t
spread_rank [] [] = refl
spread_rank [] (q ∷ t) = omega arith
spread_rank (p ∷ s) [] = omega arith
spread_rank (p ∷ s) (q ∷ t) = refl

pub common_is : (x y : Array) → common_shape (spread y.shape x ∷ spread x.shape y ∷ []) ≡ common_beside x.shape y.shape
common_is x y = common_of_two (spread y.shape x) (spread x.shape y) ∙ ap (λ n. common_by n x.shape y.shape) (spread_rank x.shape y.shape)

spread_within : (s t : List ℕ) → length (shape_beside t s) ≤ greater_rank s t
spread_within [] t = omega arith
spread_within (p ∷ s) t = omega arith

spread_behind : (s t : List ℕ) → length (shape_beside s t) ≤ greater_rank s t
spread_behind s [] = omega arith
spread_behind s (q ∷ t) = omega arith

pub length-common : (s t : List ℕ) → length (common_beside s t) ≡ greater_rank s t
length-common s t =
    let n : ℕ = greater_rank s t in
    let left = length-with_rank n (shape_beside t s) (spread_within s t) in
    let right = length-with_rank n (shape_beside s t) (spread_behind s t) in
    length-greater_axes (with_rank n (shape_beside t s)) (with_rank n (shape_beside s t)) (left ∙ sym right) ∙ left

-- an atom is repeated to the shape of the other
common_left : (t : List ℕ) → common_beside [] t ≡ t
common_left [] = refl
common_left (q ∷ t) =
    let same : with_rank (greater_rank [] (q ∷ t)) (q ∷ t) ≡ q ∷ t = with_rank_same (greater_rank [] (q ∷ t)) (q ∷ t) (omega arith) in
    ap (λ r. greater_axes r r) same ∙ greater_self (q ∷ t)

common_right : (s : List ℕ) → common_beside s [] ≡ s
common_right [] = refl
common_right (p ∷ s) =
    let same : with_rank (greater_rank (p ∷ s) []) (p ∷ s) ≡ p ∷ s = with_rank_same (greater_rank (p ∷ s) []) (p ∷ s) (omega arith) in
    ap (λ r. greater_axes r r) same ∙ greater_self (p ∷ s)

fits_spread : (c s t : List ℕ) → IsUnder (with_rank (length c) (shape_beside t s)) c → Fits c s
fits_spread c [] t h = tt
fits_spread c (p ∷ s) t h = h

both_under : (x y : Array) → All (λ a. IsUnder (with_rank (length (common_beside x.shape y.shape)) a.shape) (common_beside x.shape y.shape)) (pair x y)
both_under x y = subst (λ (c : List ℕ). All (λ a. IsUnder (with_rank (length c) a.shape) c) (pair x y)) (common_is x y) (all_under (pair x y))

pub left_fits_common : (x y : Array) → Fits (common_beside x.shape y.shape) x.shape
left_fits_common x y =
    let c : List ℕ = common_beside x.shape y.shape in
    fits_spread c x.shape y.shape (All-head (λ a. IsUnder (with_rank (length c) a.shape) c) (spread y.shape x) (spread x.shape y ∷ []) (both_under x y))

pub right_fits_common : (x y : Array) → Fits (common_beside x.shape y.shape) y.shape
right_fits_common x y =
    let c : List ℕ = common_beside x.shape y.shape in
    fits_spread c y.shape x.shape
    (All-head (λ a. IsUnder (with_rank (length c) a.shape) c) (spread x.shape y) [] (All-tail (λ a. IsUnder (with_rank (length c) a.shape) c) (spread y.shape x) (spread x.shape y ∷ []) (both_under x y)))

-- a noun brought to the common shape is the repeated one padded
brought_common : (z : Atom) (c s t : List ℕ) (xs : List Atom) → (s ≡ [] → c ≡ t) → length xs ≡ product s → brought z c s xs ≡ padded z (with_rank (length c) (shape_beside t s)) c (atoms_beside t s xs)
brought_common z c [] t xs same e =
    let is : c ≡ t = same refl in
    let atoms : List Atom = repeated (product t) xs in
    ap (λ r. repeated (product r) xs) is ∙ sym (padded_same z t atoms (length-repeated (product t) xs (omega (arith, e))))
    ∙ ap (λ r. padded z r t atoms) (sym (with_rank_same (length t) t refl)) ∙ ap (λ r. padded z (with_rank (length r) t) r atoms) (sym is)
brought_common z c (p ∷ s) t xs same e = refl

left_same : (s t : List ℕ) → s ≡ [] → common_beside s t ≡ t
left_same [] t e = common_left t
left_same (p ∷ s) t e = cc

right_same : (s t : List ℕ) → t ≡ [] → common_beside s t ≡ s
right_same s [] e = common_right s
right_same s (q ∷ t) e = cc

-- both together are the two items
groups_assembled : (k : Kind) (x y : Array) → IsNoun x → IsNoun y → groups k (2 ∷ common_beside x.shape y.shape) x (common_beside x.shape y.shape) y (common_beside x.shape y.shape) ≡ assembled (2 ∷ []) (pair x y) k
groups_assembled k x y noun other =
    let s : List ℕ = x.shape in
    let t : List ℕ = y.shape in
    let c : List ℕ = common_beside s t in
    let z : Atom = fill_atom k in
    let before : List Atom = padded z (with_rank (length c) (shape_beside t s)) c (atoms_beside t s x.atoms) in
    let behind : List Atom = padded z (with_rank (length c) (shape_beside s t)) c (atoms_beside s t y.atoms) in
    ap (λ xs. let it : Array = record { kind = k; shape = 2 ∷ c; atoms = xs ++ brought z c t y.atoms } in it) (brought_common z c s t x.atoms (left_same s t) noun.as_many)
    ∙ ap (λ ys. let it : Array = record { kind = k; shape = 2 ∷ c; atoms = before ++ ys } in it) (brought_common z c t s y.atoms (right_same s t) other.as_many ∙ sym (append-nil behind))
    ∙ ap (λ r. let it : Array = record { kind = k; shape = 2 ∷ r; atoms = padded z (with_rank (length r) (shape_beside t s)) r (atoms_beside t s x.atoms) ++ (padded z (with_rank (length r) (shape_beside s t)) r (atoms_beside s t y.atoms) ++ []) } in it) (sym (common_is x y))

abbrev kind_across : Array → Array → Option Kind
kind_across x y = two_kinds x.kind (is_bare y.shape x.shape x.atoms) y.kind (is_bare x.shape y.shape y.atoms)

kind_spread : (x y : Array) → joined_kind (pair x y) ≡ kind_across x y
kind_spread x y = kind_of_two (spread y.shape x) (spread x.shape y)

pub laminate_refused : (x y : Array) → None ≡ two_kinds x.kind (is_bare y.shape x.shape x.atoms) y.kind (is_bare x.shape y.shape y.atoms) → laminate x y ≡ Err Domain
laminate_refused x y e = ap (assembled_as (2 ∷ []) (pair x y)) (kind_spread x y ∙ sym e)

pub laminate_beyond : (x y : Array) (k : Kind) → Some k ≡ two_kinds x.kind (is_bare y.shape x.shape x.atoms) y.kind (is_bare x.shape y.shape y.atoms) → 32 < 1 + length (common_beside x.shape y.shape) → laminate x y ≡ Err Limit
laminate_beyond x y k e long = rank_beyond (2 ∷ []) (pair x y) k (kind_spread x y ∙ sym e) (omega (arith, ap length (common_is x y)))

some_across : (s t c : List ℕ) (xs : List Atom) → (s ≡ [] → c ≡ t) → 0 < product c → 0 < length xs → is_bare t s xs ≡ false
some_across [] t c xs same h g = not_none (length (repeated (product t) xs)) (omega (arith, ap product (same refl), length-repeated (product t) xs g))
some_across (p ∷ s) t c xs same h g = not_none (length xs) g

pub left_across : (x y : Array) (k : Kind) → Some k ≡ two_kinds x.kind (is_bare y.shape x.shape x.atoms) y.kind (is_bare x.shape y.shape y.atoms) → IsNoun x → IsNoun y → IsGroup k x (common_beside x.shape y.shape)
left_across x y k e noun other = record {
  rank = omega (arith, length-common x.shape y.shape);
  few = omega (arith, length-common x.shape y.shape, noun.within.rank, other.within.rank);
  fits = left_fits_common x y;
  joins = λ h g. left_kind x.kind y.kind k (is_bare y.shape x.shape x.atoms) (is_bare x.shape y.shape y.atoms) (sym e) (some_across x.shape y.shape (common_beside x.shape y.shape) x.atoms (left_same x.shape y.shape) h g);
}

pub right_across : (x y : Array) (k : Kind) → Some k ≡ two_kinds x.kind (is_bare y.shape x.shape x.atoms) y.kind (is_bare x.shape y.shape y.atoms) → IsNoun x → IsNoun y → IsGroup k y (common_beside x.shape y.shape)
right_across x y k e noun other = record {
  rank = omega (arith, length-common x.shape y.shape);
  few = omega (arith, length-common x.shape y.shape, noun.within.rank, other.within.rank);
  fits = right_fits_common x y;
  joins = λ h g. right_kind x.kind y.kind k (is_bare y.shape x.shape x.atoms) (is_bare x.shape y.shape y.atoms) (sym e) (some_across y.shape x.shape (common_beside x.shape y.shape) y.atoms (right_same x.shape y.shape) h g);
}

-- what was made of the groups is what is said
pub laminate_made : (x y : Array) (k : Kind) (m : Result Array Refusal) (both l r : List ℕ) → Some k ≡ two_kinds x.kind (is_bare y.shape x.shape x.atoms) y.kind (is_bare x.shape y.shape y.atoms) → IsNoun x → IsNoun y →
    both ≡ 2 ∷ common_beside x.shape y.shape → l ≡ common_beside x.shape y.shape → r ≡ common_beside x.shape y.shape → OrWanting (limited (groups k both x l y r)) m → OrWanting (laminate x y) m
laminate_made x y k m both l r e noun other eb el er h =
    let c : List ℕ = common_beside x.shape y.shape in
    let same : groups k both x l y r ≡ assembled (2 ∷ []) (pair x y) k =
    ap (λ b. groups k b x l y r) eb ∙ ap (λ b. groups k (2 ∷ c) x b y r) el ∙ ap (groups k (2 ∷ c) x c y) er ∙ groups_assembled k x y noun other in
    subst (λ (w : Result Array Fault). OrWanting w m) (ap limited same ∙ sym (assemble_as (2 ∷ []) (pair x y) k (kind_spread x y ∙ sym e))) h

-- the kind by the axes
pub kind_by_axes : (x y : Array) (s t : List ℕ) (o p : Option Kind) → p ≡ o → o ≡ two_kinds x.kind (is_bare t x.shape x.atoms) y.kind (is_bare s y.shape y.atoms) → s ≡ x.shape → t ≡ y.shape →
    p ≡ two_kinds x.kind (is_bare y.shape x.shape x.atoms) y.kind (is_bare x.shape y.shape y.atoms)
kind_by_axes x y s t o p e f hs ht =
    e ∙ f ∙ ap (λ d. two_kinds x.kind (is_bare d x.shape x.atoms) y.kind (is_bare s y.shape y.atoms)) ht ∙ ap (λ d. two_kinds x.kind (is_bare y.shape x.shape x.atoms) y.kind (is_bare d y.shape y.atoms)) hs

pub common_as : (x y : Array) (s t c axes : List ℕ) → axes ≡ c → c ≡ common_beside s t → s ≡ x.shape → t ≡ y.shape → axes ≡ common_beside x.shape y.shape
common_as x y s t c axes e f hs ht = e ∙ f ∙ ap (λ r. common_beside r t) hs ∙ ap (common_beside x.shape) ht
