-- The contents of atoms.
use Rattle.std.proofs.Common.{◌≡◌, ◌≤◌, List, [], ◌∷◌, length, map, get_or, arith, sym, ap, ◌∙◌, Ok, Result}
use Rattle.std.proofs.lemmas.List.{nil_from_length, length-map}
use Rattle.j_definitions.specs.Array.{Array, Atom, product, boxed, opened, IsNoun}
use Rattle.j_definitions.specs.Cells.{atom_at}
use Rattle.j_definitions.specs.declared.Kind.{Kind}
use Rattle.j_definitions.specs.declared.Fault.{Fault}
use Rattle.j_definitions.proofs.Laws.{opened-boxed}
use Rattle.j_joining.specs.Joining.{content}

one_of : (y : Array) → IsNoun y → length y.shape ≤ 0 → length y.atoms ≡ 1
one_of y noun h = let none : y.shape ≡ [] = nil_from_length y.shape (omega arith) in noun.as_many ∙ ap product none

pub one_held : {X : Type 0} (f : X → Atom) (y : Array) (vs : List X) → IsNoun y → length y.shape ≤ 0 → map f vs ≡ y.atoms → length vs ≡ 1
one_held f y vs noun h e = omega (arith, one_of y noun h, ap length e, length-map vs f)

held_first : (vs : List Array) (d : Array) → length vs ≡ 1 → d ≡ get_or vs 0 d → opened (atom_at (map boxed vs) 0) ≡ d
held_first [] d one is = absurd (omega arith)
held_first (v ∷ vs) d one is = opened-boxed v ∙ sym is

-- the content of a box
pub content_held : (y : Array) (vs : List Array) (d : Array) → IsNoun y → length y.shape ≤ 0 → map boxed vs ≡ y.atoms → d ≡ get_or vs 0 d → content y ≡ Ok d
content_held y vs d noun h e is =
    ap (λ xs. let r : Result Array Fault = Ok (opened (atom_at xs 0)) in r) (sym e) ∙ ap (λ (a : Array). let r : Result Array Fault = Ok a in r) (held_first vs d (one_held boxed y vs noun h e) is)

itself : {X : Type 0} (f : X → Atom) (k : Kind) → ((x : X) → opened (f x) ≡ record { kind = k; shape = []; atoms = f x ∷ [] }) → (vs : List X) → length vs ≡ 1 →
    opened (atom_at (map f vs) 0) ≡ record { kind = k; shape = []; atoms = map f vs }
itself f k own [] one = absurd (omega arith)
itself f k own (v ∷ []) one = own v
itself f k own (v ∷ w ∷ vs) one = absurd (omega arith)

-- an atom that isn't boxed is its own content
pub content_itself : {X : Type 0} (f : X → Atom) (k : Kind) (y : Array) (vs : List X) → ((x : X) → opened (f x) ≡ record { kind = k; shape = []; atoms = f x ∷ [] }) → IsNoun y → length y.shape ≤ 0 →
    map f vs ≡ y.atoms → k ≡ y.kind → content y ≡ Ok y
content_itself f k y vs own noun h e same =
    let none : y.shape ≡ [] = nil_from_length y.shape (omega arith) in
    ap (λ xs. let r : Result Array Fault = Ok (opened (atom_at xs 0)) in r) (sym e) ∙ ap (λ (a : Array). let r : Result Array Fault = Ok a in r) (itself f k own vs (one_held f y vs noun h e))
    ∙ ap (λ j. let r : Result Array Fault = Ok (record { kind = j; shape = []; atoms = map f vs }) in r) same
    ∙ ap (λ s. let r : Result Array Fault = Ok (record { kind = y.kind; shape = s; atoms = map f vs }) in r) (sym none)
    ∙ ap (λ xs. let r : Result Array Fault = Ok (record { kind = y.kind; shape = y.shape; atoms = xs }) in r) e
