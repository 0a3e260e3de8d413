-- Nouns of repeated items, and their faults.
use Rattle.std.proofs.Common.{◌≡◌, ◌<◌, ◌≤◌, ◌*◌, ℕ, Bool, true, false, ◌&&◌, not, nat_eq, cond, List, [], ◌∷◌, ◌++◌, length, map, drop, arith, refl, sym, ap, ◌∙◌, subst, Result, Ok, Err}
use Prim.Native.Nat.{zero, suc}
use Rattle.std.specs.List.{list_any}
use Rattle.std.proofs.Math.Dec.{eqb-suc-zero}
use Rattle.j_definitions.specs.Array.{Array, Atom, byte, boxed, product, tally, IsNoun, IsWithin}
use Rattle.j_definitions.specs.Cells.{in_order}
use Rattle.j_definitions.specs.Items.{item_size}
use Rattle.j_definitions.specs.Limits.{limited}
use Rattle.j_definitions.specs.declared.Fault.{Fault}
use Rattle.j_definitions.specs.declared.Fault.TheVariants.{Domain, Length, Limit}
use Rattle.j_definitions.proofs.Limits.{limited-Err, many_beyond}
use Rattle.j_noun.specs.declared.noun.Atoms.{Atoms}
use Rattle.j_noun.specs.declared.refusal.Refusal.{Refusal}
use Rattle.j_noun.specs.Held.{AreAtoms, array_kept, atoms_kept, kind_kept}
use Rattle.j_noun.specs.Refused.{OrWanting}
use Rattle.j_rank.proofs.Products.{is_zero, product_zero, product_some, product_append}
use Rattle.j_reshaping.specs.Reshaping.{length_of, items_repeated, wants_items, in_shape, reshaped}
use Rattle.j_reshaping.proofs.Reshapes.{repeated_many, some_there}

-- too many axes
pub axes_beyond : (a : Array) → 32 < length a.shape → limited a ≡ Err Limit
axes_beyond a many = limited-Err a (λ (h : IsWithin a.shape a.atoms). let rank : length a.shape ≤ 32 = h.rank in omega arith)

faulty_bytes : (bs : List ℕ) → 0 < length (map byte bs) → in_order (map length_of (map byte bs)) ≡ Err Domain
faulty_bytes [] h = absurd (omega arith)
faulty_bytes (b ∷ bs) h = refl

-- characters are no lengths
pub bytes_fault : (bs : List ℕ) (atoms : List Atom) (b : Bool) → map byte bs ≡ atoms → b ≡ nat_eq (length atoms) 0 → b ≡ false → in_order (map length_of atoms) ≡ Err Domain
bytes_fault bs atoms b is e h = ap (λ xs. in_order (map length_of xs)) (sym is) ∙ faulty_bytes bs (omega (arith, some_there atoms b e h, ap length is))

faulty_boxes : (kids : List Array) → 0 < length (map boxed kids) → in_order (map length_of (map boxed kids)) ≡ Err Domain
faulty_boxes [] h = absurd (omega arith)
faulty_boxes (a ∷ kids) h = refl

-- boxes are no lengths
pub boxes_fault : (kids : List Array) (atoms : List Atom) (b : Bool) → map boxed kids ≡ atoms → b ≡ nat_eq (length atoms) 0 → b ≡ false → in_order (map length_of atoms) ≡ Err Domain
boxes_fault kids atoms b is e h = ap (λ xs. in_order (map length_of xs)) (sym is) ∙ faulty_boxes kids (omega (arith, some_there atoms b e h, ap length is))

-- items are wanting, or not
pub wanting : (s : List ℕ) (y : Array) → wants_items s y ≡ true → reshaped (Ok s) y ≡ Err Length
wanting s y e = ap (λ (b : Bool). let r : Result Array Fault = cond b (Err Length) (limited (in_shape s y)) in r) e

fits : (s : List ℕ) (y : Array) → wants_items s y ≡ false → reshaped (Ok s) y ≡ limited (in_shape s y)
fits s y e = ap (λ (b : Bool). let r : Result Array Fault = cond b (Err Length) (limited (in_shape s y)) in r) e

pub not_wanting : (s : List ℕ) (y : Array) (m : Result Array Refusal) → wants_items s y ≡ false → OrWanting (limited (in_shape s y)) m → OrWanting (reshaped (Ok s) y) m
not_wanting s y m e h = subst (λ (r : Result Array Fault). OrWanting r m) (sym (fits s y e)) h

pub past_axes : (s : List ℕ) (y : Array) (f : Fault) → wants_items s y ≡ false → f ≡ Limit → 32 < length (s ++ drop 1 y.shape) → reshaped (Ok s) y ≡ Err f
past_axes s y f e is many = fits s y e ∙ axes_beyond (in_shape s y) many ∙ ap (λ (g : Fault). let r : Result Array Fault = Err g in r) (sym is)

needed : (t p : ℕ) → (nat_eq t 0 && not (nat_eq p 0)) ≡ false → 0 < p → 0 < t
needed zero zero e h = absurd (omega arith)
needed zero (suc p) e h = let some : not (nat_eq (suc p) 0) ≡ true = ap not (eqb-suc-zero p) in cc
needed (suc t) p e h = omega arith

-- there is an item where one is needed
pub wanted : (s : List ℕ) (y : Array) → wants_items s y ≡ false → 0 < product s → 0 < tally y.shape
wanted s y e h = needed (tally y.shape) (product s) e h

pub size_of : (s : List ℕ) (y : Array) (axes : List ℕ) (size : ℕ) → axes ≡ s ++ drop 1 y.shape → size ≡ product axes → size ≡ product s * item_size y.shape
size_of s y axes size is e = e ∙ ap product is ∙ product_append s (drop 1 y.shape)

many_items : (s : List ℕ) (y : Array) → IsNoun y → wants_items s y ≡ false → length (items_repeated (product s) y) ≡ product (s ++ drop 1 y.shape)
many_items s y noun e = repeated_many y (product s) noun (wanted s y e) ∙ sym (product_append s (drop 1 y.shape))

-- too many atoms
pub past_atoms : (s : List ℕ) (y : Array) (axes : List ℕ) → IsNoun y → wants_items s y ≡ false → axes ≡ s ++ drop 1 y.shape → 4194304 < product axes → limited (in_shape s y) ≡ Err Limit
past_atoms s y axes noun e is many = many_beyond (in_shape s y) (omega (arith, many_items s y noun e, ap product is))

pub filled_many : (s : List ℕ) (y : Array) (shape : List ℕ) (t : Atoms) → IsNoun y → wants_items s y ≡ false → shape ≡ s ++ drop 1 y.shape →
    AreAtoms t y.kind (items_repeated (product s) y) → length (atoms_kept t) ≡ product shape
filled_many s y shape t noun e is are = ap length are.atoms ∙ many_items s y noun e ∙ ap product (sym is)

-- the noun that is made
pub filled : (s : List ℕ) (y : Array) (shape : List ℕ) (t : Atoms) → shape ≡ s ++ drop 1 y.shape → AreAtoms t y.kind (items_repeated (product s) y) → array_kept shape t ≡ in_shape s y
filled s y shape t is are =
    let atoms : atoms_kept t ≡ items_repeated (product s) y = are.atoms in
    let kind : kind_kept t ≡ y.kind = are.kind in
    cc

not_none : (n : ℕ) → 0 < n → nat_eq n 0 ≡ false
not_none zero h = absurd (omega arith)
not_none (suc n) h = eqb-suc-zero n

zero_told : (s : List ℕ) (b : Bool) → list_any is_zero s ≡ b → b ≡ nat_eq (product s) 0
zero_told s true e = sym (ap is_zero (product_zero s e))
zero_told s false e = sym (not_none (product s) (product_some s e))

-- no length is 0, and there is no item
pub wants_all : (s : List ℕ) (t : ℕ) (b : Bool) → t ≡ 0 → b ≡ list_any is_zero s → not b ≡ (nat_eq t 0 && not (nat_eq (product s) 0))
wants_all s t b none e = ap not (e ∙ zero_told s (list_any is_zero s) refl) ∙ sym (ap (λ n. nat_eq n 0 && not (nat_eq (product s) 0)) none)
