-- What stands in a box that indexes, as index nouns.
use Rattle.std.proofs.Common.{◌≡◌, ◌≤◌, ◌∙◌, ℕ, ℤ, Bool, true, false, nat_lt, cond, List, [], ◌∷◌, length, map, get_or, arith, refl, sym, ap, Option, Some, None, Err}
use Rattle.std.proofs.lemmas.List.{length-map}
use Rattle.j_definitions.specs.Array.{Array, Atom, number, byte, boxed, opened, product, IsNoun}
use Rattle.j_definitions.specs.Cells.{atom_at, in_order}
use Rattle.j_definitions.specs.Limits.{limited}
use Rattle.j_definitions.proofs.Laws.{opened-boxed}
use Rattle.j_definitions.specs.declared.Kind.TheVariants.{Character, Boxed}
use Rattle.j_definitions.specs.declared.Fault.{Fault}
use Rattle.j_definitions.specs.declared.Fault.TheVariants.{Domain, Rank, Length, Nonce}
use Rattle.j_indices.specs.Numbers.{and_then}
use Rattle.j_indices.specs.Selecting.{items_indexed}
use Rattle.j_indices.specs.Indexing.{any_of_kind, index_fault, unless_fault, places_in, cells_chosen, along_axes, from_at, from}

pub opened_boxes : (ys : List Array) → map opened (map boxed ys) ≡ ys
opened_boxes [] = refl
opened_boxes (y ∷ ys) = ap (λ (a : Array). a ∷ map opened (map boxed ys)) (opened-boxed y) ∙ ap (λ (r : List Array). y ∷ r) (opened_boxes ys)

no_boxes : (bs : List ℕ) → any_of_kind Boxed (map opened (map byte bs)) ≡ false
no_boxes [] = refl
no_boxes (b ∷ bs) = no_boxes bs

some_bytes : (bs : List ℕ) → 1 ≤ length bs → any_of_kind Character (map opened (map byte bs)) ≡ true
some_bytes [] h = absurd (omega arith)
some_bytes (b ∷ bs) h = refl

abbrev past_bytes : ℕ → List Array → List ℕ → Bool → Option Fault
past_bytes rank nouns s b = cond b (Some Domain) (cond (nat_lt 1 rank) (Some Rank) (cond (nat_lt (length s) (length nouns)) (Some Length) None))

abbrev past_boxes : ℕ → List Array → List ℕ → Bool → Option Fault
past_boxes rank nouns s b = cond b (Some Nonce) (past_bytes rank nouns s (any_of_kind Character nouns))

bytes_fault : (rank : ℕ) (bs s : List ℕ) → 1 ≤ length bs → index_fault rank (map opened (map byte bs)) s ≡ Some Domain
bytes_fault rank bs s h = let nouns = map opened (map byte bs) in ap (past_boxes rank nouns s) (no_boxes bs) ∙ ap (past_bytes rank nouns s) (some_bytes bs h)

pub bytes_refused : (rank : ℕ) (bs : List ℕ) (y : Array) → 1 ≤ length bs → along_axes rank (map opened (map byte bs)) y ≡ Err Domain
bytes_refused rank bs y h =
    let nouns = map opened (map byte bs) in
    ap (λ (r : Option Fault). unless_fault r (and_then (in_order (places_in y.shape nouns)) (λ taken. limited (cells_chosen nouns y taken)))) (bytes_fault rank bs y.shape h)

pub one_element : {X : Type 0} (g : X → Atom) (v : List X) (x : Array) → map g v ≡ x.atoms → x.shape ≡ [] → IsNoun x → length v ≡ 1
one_element g v x e h noun = omega (arith, length-map v g, ap length e, noun.as_many, ap product h)

pub one_number : {X : Type 0} (value : X → ℤ) (v : List X) (x y : Array) → map (λ b. number (value b)) v ≡ x.atoms → length v ≡ 1 → from x y ≡ items_indexed [] (map value v) y
one_number value [] x y e h = absurd (omega arith)
one_number value (z ∷ []) x y e h = ap (λ (xs : List Atom). from_at (atom_at xs 0) y) (sym e)
one_number value (z ∷ w ∷ v) x y e h = absurd (omega arith)

pub one_box : (v : List Array) (a x y : Array) → map boxed v ≡ x.atoms → length v ≡ 1 → a ≡ get_or v 0 a → from x y ≡ along_axes (length a.shape) (map opened a.atoms) y
one_box [] a x y e h is = absurd (omega arith)
one_box (b ∷ []) a x y e h is =
    ap (λ (xs : List Atom). from_at (atom_at xs 0) y) (sym e) ∙ ap (λ (w : Array). along_axes (length b.shape) (map opened w.atoms) y) (opened-boxed b)
    ∙ ap (λ (w : Array). along_axes (length w.shape) (map opened w.atoms) y) (sym is)
one_box (b ∷ d ∷ v) a x y e h is = absurd (omega arith)
