-- The order of items.
use Rattle.std.proofs.Common.{◌≡◌, ◌<◌, ◌*◌, ◌/◌, ℕ, List, [], ◌∷◌, length, map, take, drop, refl, sym, ap, ◌∙◌, arith, pos, ◌<ℤ◌}
use Rattle.std.specs.Cmp.{int_cmp_is}
use Rattle.std.proofs.lemmas.Cmp.{ranked}
use Rattle.std.proofs.lemmas.Int.{ints}
use Rattle.std.specs.Ordering.{nat_cmp, int_cmp, ordering_then, MatchOrdering}
use Rattle.std.specs.declared.cmp.Ordering.{Ordering}
use Rattle.std.specs.declared.cmp.Ordering.TheVariants.{Less, Equal, Greater}
use Rattle.std.specs.Cmp.Lexicographic.{slice_cmp}
use Rattle.std.specs.Cmp.Derive.Mapped.{lex_map}
use Rattle.std.proofs.lemmas.List.{take-map, drop-map, length-map}
use Rattle.std.proofs.Math.Nat.{mul-div_cancel_left}
use Rattle.j_definitions.specs.Array.{Array, Atom, number, tally, product, IsNoun}
use Rattle.j_definitions.specs.Items.{item_size, item, atom_cmp, items_cmp}

items_many : (s : List ℕ) → product s ≡ tally s * item_size s
items_many [] = refl
items_many (n ∷ s) = refl

-- how many atoms an item has, by the number of atoms
size_is : (a : Array) (n : ℕ) → IsNoun a → n ≡ length a.atoms → 0 < tally a.shape → n / tally a.shape ≡ item_size a.shape
size_is a n noun many some =
    ap (λ m. m / tally a.shape) (many ∙ noun.as_many ∙ items_many a.shape) ∙ mul-div_cancel_left (item_size a.shape) some

-- the atoms of an item, as a run of what is stored
atoms_of_item : {X : Type 0} (f : X → Atom) (a : Array) (xs : List X) (k size : ℕ) → map f xs ≡ a.atoms → size ≡ item_size a.shape → item a k ≡ map f (take size (drop (k * size) xs))
atoms_of_item f a xs k size atoms e =
    ap (λ n. take n (drop (k * n) a.atoms)) (sym e) ∙ ap (λ ys. take size (drop (k * size) ys)) (sym atoms)
    ∙ ap (take size) (drop-map f (k * size) xs) ∙ take-map f size (drop (k * size) xs)

-- two items, as runs of what is stored
pub items_order : {X : Type 0} (f : X → Atom) (a : Array) (xs : List X) (i j count : ℕ) → IsNoun a → map f xs ≡ a.atoms → count ≡ tally a.shape → i < tally a.shape →
    slice_cmp (λ x y. atom_cmp (f x) (f y)) (take (length xs / count) (drop (i * (length xs / count)) xs)) (take (length xs / count) (drop (j * (length xs / count)) xs)) ≡ items_cmp a i j
items_order f a xs i j count noun atoms counted lt =
    let many : length xs ≡ length a.atoms = sym (length-map xs f) ∙ ap length atoms in
    let is : length xs / count ≡ item_size a.shape = ap (λ n. length xs / n) counted ∙ size_is a (length xs) noun many (omega arith) in
    let us = take (length xs / count) (drop (i * (length xs / count)) xs) in
    let vs = take (length xs / count) (drop (j * (length xs / count)) xs) in
    sym (ap (λ ws. slice_cmp atom_cmp ws (item a j)) (atoms_of_item f a xs i (length xs / count) atoms is)
    ∙ ap (slice_cmp atom_cmp (map f us)) (atoms_of_item f a xs j (length xs / count) atoms is)
    ∙ lex_map f atom_cmp us vs)

bit_ranks : (a b : ℕ) (r : Ordering) → MatchOrdering r (a < b) (a ≡ b) (b < a) → MatchOrdering r (pos a <ℤ pos b) (pos a ≡ pos b) (pos b <ℤ pos a)
bit_ranks a b Less h = omega (arith, ints)
bit_ranks a b Equal h = ap pos h
bit_ranks a b Greater h = omega (arith, ints)

-- bits are ordered as numbers are
bit_order : (a b : ℕ) → nat_cmp a b ≡ int_cmp (pos a) (pos b)
bit_order a b = int_cmp_is (pos a) (pos b) (nat_cmp a b) (bit_ranks a b (nat_cmp a b) (ranked a b (nat_cmp a b) refl))

bits_order : (xs ys : List ℕ) → slice_cmp nat_cmp xs ys ≡ slice_cmp (λ a b. int_cmp (pos a) (pos b)) xs ys
bits_order [] [] = refl
bits_order [] (y ∷ ys) = refl
bits_order (x ∷ xs) [] = refl
bits_order (x ∷ xs) (y ∷ ys) = ap (λ o. ordering_then o (slice_cmp nat_cmp xs ys)) (bit_order x y) ∙ ap (ordering_then (int_cmp (pos x) (pos y))) (bits_order xs ys)

-- two items of bits
pub bit_items_order : (a : Array) (xs : List ℕ) (i j count : ℕ) → IsNoun a → map (λ b. number (pos b)) xs ≡ a.atoms → count ≡ tally a.shape → i < tally a.shape →
    slice_cmp nat_cmp (take (length xs / count) (drop (i * (length xs / count)) xs)) (take (length xs / count) (drop (j * (length xs / count)) xs)) ≡ items_cmp a i j
bit_items_order a xs i j count noun atoms counted lt =
    bits_order (take (length xs / count) (drop (i * (length xs / count)) xs)) (take (length xs / count) (drop (j * (length xs / count)) xs))
    ∙ items_order (λ b. number (pos b)) a xs i j count noun atoms counted lt
