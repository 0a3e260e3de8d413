-- Cells as parts of the atoms of a noun.
use Rattle.std.proofs.Common.{◌≡◌, ◌<◌, ◌≤◌, ◌+◌, ◌-◌, ◌*◌, ℕ, List, [], ◌∷◌, length, map, take, drop, get_or, arith, sym, ap, ◌∙◌, subst, mul-one, Result, Ok, Err, IfOk}
use Rattle.std.specs.List.{All}
use Rattle.std.proofs.lemmas.List.{take-map, drop-map, length-take, length-drop, drop_all, drop_more, take_rest, take_all}
use Rattle.std.proofs.lemmas.List.Elements.{All-take, All-drop}
use Rattle.std.proofs.Math.Nat.{mul-le-mul_left, mul_comm}
use Rattle.j_definitions.specs.Array.{Array, Atom, product, IsNoun, atom_array}
use Rattle.j_definitions.specs.Items.{part}
use Rattle.j_definitions.specs.declared.Kind.{Kind}
use Rattle.j_noun.specs.declared.noun.Atoms.{Atoms}
use Rattle.j_noun.specs.Held.{AreAtoms, array_kept, atoms_kept, kind_kept}
use Rattle.j_rank.specs.Cells.{cell, cell_size}
use Rattle.j_rank.proofs.Products.{product_parts}

-- cell k lies within the atoms
pub run_fits : (s : List ℕ) (n k size len : ℕ) → k < product (take n s) → size ≡ product (drop n s) → len ≡ product s → (k + 1) * size ≤ len
run_fits s n k size len h e many =
    let more : k + 1 ≤ product (take n s) = omega arith in
    omega (arith, product_parts s n, ap (λ q. product (take n s) * q) e, many, mul_comm size (k + 1), mul_comm size (product (take n s)), mul-le-mul_left size more)

-- a part of what atoms are made of is a part of the atoms
pub part_map : {X : Type 0} (f : X → Atom) (xs run : List X) (k size : ℕ) → run ≡ take size (drop (k * size) xs) → map f run ≡ part size (map f xs) k
part_map f xs run k size is = ap (map f) is ∙ sym (ap (take size) (drop-map f (k * size) xs) ∙ take-map f size (drop (k * size) xs))

-- a part of bits
pub bits_part : (xs run : List ℕ) (k size : ℕ) → run ≡ take size (drop (k * size) xs) → All (λ b. b < 2) xs → All (λ b. b < 2) run
bits_part xs run k size is h =
    subst (All (λ b. b < 2)) (sym is) (All-take (λ b. b < 2) size (drop (k * size) xs) (All-drop (λ b. b < 2) (k * size) xs h))

-- one element is the part of its place
pub one_atom : {X : Type 0} (f : X → Atom) (a : Array) (xs : List X) (kind : Kind) (k : ℕ) (z d : X) → map f xs ≡ a.atoms → kind ≡ a.kind → k < length xs → z ≡ get_or xs k d →
    atom_array kind (f z) ≡ record { kind = a.kind; shape = []; atoms = take 1 (drop k a.atoms) }
one_atom f a xs kind k z d atoms same h is =
    let run : z ∷ [] ≡ take 1 (drop k xs) = ap (λ w. w ∷ []) is ∙ sym (ap (take 1) (drop_more xs k d h)) in
    let all : f z ∷ [] ≡ take 1 (drop k a.atoms) = ap (map f) run ∙ sym (ap (take 1) (drop-map f k xs) ∙ take-map f 1 (drop k xs)) ∙ ap (λ ys. take 1 (drop k ys)) atoms in
    cc

-- an atom is the cell where all axes are the frame
pub atom_cell : (a : Array) (n k : ℕ) → length a.shape ≤ n → (let it : Array = record { kind = a.kind; shape = []; atoms = take 1 (drop k a.atoms) } in it) ≡ cell n a k
atom_cell a n k h =
    let none : drop n a.shape ≡ [] = drop_all n a.shape h in
    let one : 1 ≡ cell_size n a.shape = sym (ap product none) in
    let place : k ≡ k * cell_size n a.shape = sym (mul-one k) ∙ ap (λ m. k * m) one in
    ap (λ s. let it : Array = record { kind = a.kind; shape = s; atoms = take 1 (drop k a.atoms) } in it) (sym none)
    ∙ ap (λ m. let it : Array = record { kind = a.kind; shape = drop n a.shape; atoms = take m (drop k a.atoms) } in it) one
    ∙ ap (λ j. let it : Array = record { kind = a.kind; shape = drop n a.shape; atoms = take (cell_size n a.shape) (drop j a.atoms) } in it) place

-- a noun of a part is the cell
pub cell_made : (a : Array) (t : Atoms) (kind : Kind) (xs : List Atom) (own : List ℕ) (n k size : ℕ) → AreAtoms t kind (part size xs k) → xs ≡ a.atoms → kind ≡ a.kind → own ≡ drop n a.shape → size ≡ product own →
    array_kept own t ≡ cell n a k
cell_made a t kind xs own n k size are atoms same shape e =
    let atoms_are : atoms_kept t ≡ part size xs k = are.atoms in
    let kind_is : kind_kept t ≡ kind = are.kind in
    let sizes : size ≡ cell_size n a.shape = e ∙ ap product shape in
    cc

pub rest_of : (s : List ℕ) (n : ℕ) → take (length s - n) (drop n s) ≡ drop n s
rest_of s n = take_rest s n

pub part_length : (xs run : List Atom) (k size : ℕ) → (k + 1) * size ≤ length xs → run ≡ part size xs k → length run ≡ size
part_length xs run k size h e = omega (arith, ap length e, length-take size (drop (k * size) xs), length-drop (k * size) xs)

-- all atoms are within the frame of all axes
pub place_within : (a : Array) (n k : ℕ) → IsNoun a → length a.shape ≤ n → k < product (take n a.shape) → k < length a.atoms
place_within a n k noun h place = omega (arith, noun.as_many, ap product (take_all n a.shape h))

-- a noun that is made, by another name
pub if_ok : {E : Type 0} (r : Result Array E) {a b : Array} → a ≡ b → IfOk r (λ n. n ≡ a) → IfOk r (λ n. n ≡ b)
if_ok (Ok n) e h = h ∙ e
if_ok (Err x) e h = tt
