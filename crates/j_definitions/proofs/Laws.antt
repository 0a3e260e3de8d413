-- What follows of boxes, weights and levels.
use Rattle.std.proofs.Common.{drop, add-one, drop-cons, ◌≡◌, ℕ, ℤ, ◌+◌, ◌≤◌, ◌<◌, lit≤, List, [], ◌∷◌, ◌++◌, length, map, max, Bool, true, false, ◌&&◌, ◌==◌, take, get_or, refl, sym, ◌∙◌, ap, arith}
use Prim.Native.Nat.{zero, suc}
use Rattle.std.proofs.Math.Dec.{eqb-suc-zero}
use Rattle.std.specs.List.{sum_by}
use Rattle.std.specs.Cmp.Lexicographic.{pointwise}
use Rattle.std.proofs.lemmas.List.Sums.{sum_by-cons, sum_by_push}
use Rattle.std.proofs.lemmas.List.{take_more, map-append, drop_all}
use Rattle.j_definitions.specs.Array.{Atom, number, byte, nested, Array, row_of, boxed, opened, row_weight, atom_weight, weight, row_level, atom_level, greatest_level, level, IsNoun, IsOfKind, atom_array, row_match, atom_match, arrays_match}
use Rattle.std.proofs.lemmas.List.Elements.{All-nil, All-cons}
use Rattle.j_definitions.specs.declared.Kind.TheVariants.{Number, Character}
use Rattle.j_definitions.specs.Stored.{atoms_in-row_of}

-- to open what was boxed gives it back
pub opened-boxed : (a : Array) → opened (boxed a) ≡ a
opened-boxed a = ap (λ xs. let it : Array = record { kind = a.kind; shape = a.shape; atoms = xs } in it) (atoms_in-row_of a.atoms)

pub row_level-row_of : (xs : List Atom) → row_level (row_of xs) ≡ greatest_level xs
row_level-row_of [] = refl
row_level-row_of (x ∷ rest) = omega (arith, row_level-row_of rest)

pub row_weight-row_of : (xs : List Atom) → row_weight (row_of xs) ≡ sum_by atom_weight xs
row_weight-row_of [] = refl
row_weight-row_of (x ∷ rest) = omega (arith, sum_by-cons {X = Atom}, row_weight-row_of rest)

-- each atom weighs one at least
pub length_le-weight : (xs : List Atom) → length xs ≤ sum_by atom_weight xs
length_le-weight [] = omega arith
length_le-weight (number z ∷ rest) = omega (arith, sum_by-cons {X = Atom}, length_le-weight rest)
length_le-weight (byte b ∷ rest) = omega (arith, sum_by-cons {X = Atom}, length_le-weight rest)
length_le-weight (nested k s c ∷ rest) = omega (arith, sum_by-cons {X = Atom}, length_le-weight rest)

-- an atom that is not boxed is a noun
pub number-IsNoun : (z : ℤ) → IsNoun (atom_array Number (number z))
number-IsNoun z = record {
  as_many = refl;
  of_kind = All-cons (IsOfKind Number) (number z) [] tt (All-nil (IsOfKind Number));
  within = record { rank = omega arith; axes = All-nil (λ n. n ≤ 4194304); light = lit≤ tt; shallow = omega arith };
}

pub byte-IsNoun : (b : ℕ) → IsNoun (atom_array Character (byte b))
byte-IsNoun b = record {
  as_many = refl;
  of_kind = All-cons (IsOfKind Character) (byte b) [] tt (All-nil (IsOfKind Character));
  within = record { rank = omega arith; axes = All-nil (λ n. n ≤ 4194304); light = lit≤ tt; shallow = omega arith };
}

pub greatest_level-push : (xs : List Atom) (x : Atom) → greatest_level (xs ++ x ∷ []) ≡ max (greatest_level xs) (atom_level x)
greatest_level-push [] x = omega arith
greatest_level-push (y ∷ ys) x = omega (arith, greatest_level-push ys x)

pub weight-boxed : (a : Array) → atom_weight (boxed a) ≡ weight a + 1
weight-boxed a = omega (arith, row_weight-row_of a.atoms)

pub level-boxed : (a : Array) → atom_level (boxed a) ≡ level a + 1
level-boxed a = omega (arith, row_level-row_of a.atoms)

-- one more box
pub boxes_weight_more : (kids : List Array) (i : ℕ) (d : Array) → i < length kids →
    sum_by atom_weight (map boxed (take (i + 1) kids)) ≡ sum_by atom_weight (map boxed (take i kids)) + (weight (get_or kids i d) + 1)
boxes_weight_more kids i d h =
    rw (take_more kids i d h, map-append boxed (take i kids) (get_or kids i d ∷ []))
    (omega (arith, sum_by_push atom_weight (map boxed (take i kids)) (boxed (get_or kids i d)), weight-boxed (get_or kids i d)))

pub boxes_level_more : (kids : List Array) (i : ℕ) (d : Array) → i < length kids →
    greatest_level (map boxed (take (i + 1) kids)) ≡ max (greatest_level (map boxed (take i kids))) (level (get_or kids i d) + 1)
boxes_level_more kids i d h =
    rw (take_more kids i d h, map-append boxed (take i kids) (get_or kids i d ∷ []))
    (omega (arith, greatest_level-push (map boxed (take i kids)) (boxed (get_or kids i d)), level-boxed (get_or kids i d)))

-- atoms that are not boxed
pub unit_weights : {X : Type 0} (f : X → Atom) → ((x : X) → atom_weight (f x) ≡ 1) → (xs : List X) → sum_by atom_weight (map f xs) ≡ length xs
unit_weights f h [] = refl
unit_weights f h (x ∷ xs) = omega (arith, sum_by-cons atom_weight (f x) (map f xs), h x, unit_weights f h xs)

pub no_level : {X : Type 0} (f : X → Atom) → ((x : X) → atom_level (f x) ≡ 0) → (xs : List X) → greatest_level (map f xs) ≡ 0
no_level f h [] = refl
no_level f h (x ∷ xs) = omega (arith, h x, no_level f h xs)

-- matching
pub row_match-row_of : (xs ys : List Atom) → row_match (row_of xs) (row_of ys) ≡ pointwise atom_match xs ys
row_match-row_of [] [] = refl
row_match-row_of [] (y ∷ ys) = refl
row_match-row_of (x ∷ xs) [] = refl
row_match-row_of (x ∷ xs) (y ∷ ys) = ap (λ r. atom_match x y && r) (row_match-row_of xs ys)

pub boxed_match : (a b : Array) → atom_match (boxed a) (boxed b) ≡ arrays_match a b
boxed_match a b = ap (λ r. pointwise ◌==◌ a.shape b.shape && r) (row_match-row_of a.atoms b.atoms)

-- atoms that are made alike
pub maps_match : {X Y : Type 0} (f : X → Atom) (g : Y → Atom) (E : X → Y → Bool) → ((x : X) (y : Y) → atom_match (f x) (g y) ≡ E x y) →
    (xs : List X) (ys : List Y) → pointwise atom_match (map f xs) (map g ys) ≡ pointwise E xs ys
maps_match f g E h [] [] = refl
maps_match f g E h [] (y ∷ ys) = refl
maps_match f g E h (x ∷ xs) [] = refl
maps_match f g E h (x ∷ xs) (y ∷ ys) = λ i. h x y i && maps_match f g E h xs ys i

not_zero : (n : ℕ) → (suc n == 0) ≡ false
not_zero n = eqb-suc-zero n

-- atoms of two kinds
pub unlike_match : {X Y : Type 0} (f : X → Atom) (g : Y → Atom) → ((x : X) (y : Y) → atom_match (f x) (g y) ≡ false) →
    (xs : List X) (ys : List Y) → pointwise atom_match (map f xs) (map g ys) ≡ ((length xs == 0) && (length ys == 0))
unlike_match f g h [] [] = refl
unlike_match f g h [] (y ∷ ys) = sym (not_zero (length ys))
unlike_match f g h (x ∷ xs) [] = ap (λ r. r && true) (sym (not_zero (length xs)))
unlike_match f g h (x ∷ xs) (y ∷ ys) =
    ap (λ r. r && pointwise atom_match (map f xs) (map g ys)) (h x y) ∙ ap (λ r. r && (suc (length ys) == 0)) (sym (not_zero (length xs)))

-- a noun in a box has a smaller box level
pub level_falls : (kids : List Array) (i : ℕ) (d : Array) → i < length kids → level (get_or kids i d) < greatest_level (map boxed kids)
level_falls [] i d h = absurd (omega arith)
level_falls (k ∷ ks) zero d h = omega (arith, level-boxed k)
level_falls (k ∷ ks) (suc i) d h = let e : i < length ks = omega arith in omega (arith, level_falls ks i d e)

-- a walk along two lists
pub pointwise_step : {X Y : Type 0} (E : X → Y → Bool) (xs : List X) (ys : List Y) (i : ℕ) (d : X) (e : Y) → i < length xs → i < length ys →
    pointwise E (drop i xs) (drop i ys) ≡ (E (get_or xs i d) (get_or ys i e) && pointwise E (drop (i + 1) xs) (drop (i + 1) ys))
pointwise_step E xs ys i d e h g = rw (add-one, drop-cons xs i d h, drop-cons ys i e g) refl

pub pointwise_flip : {X Y : Type 0} (E : X → Y → Bool) (xs : List X) (ys : List Y) → pointwise (λ y x. E x y) ys xs ≡ pointwise E xs ys
pointwise_flip E [] [] = refl
pointwise_flip E [] (y ∷ ys) = refl
pointwise_flip E (x ∷ xs) [] = refl
pointwise_flip E (x ∷ xs) (y ∷ ys) = ap (λ r. E x y && r) (pointwise_flip E xs ys)

pub pointwise_ended : {X Y : Type 0} (E : X → Y → Bool) (xs : List X) (ys : List Y) (i : ℕ) → length xs ≤ i → length ys ≤ i →
    pointwise E (drop i xs) (drop i ys) ≡ true
pointwise_ended E xs ys i h g = rw (drop_all i xs h, drop_all i ys g) refl

pub pointwise_stops : {X Y : Type 0} (E : X → Y → Bool) (xs : List X) (ys : List Y) (i : ℕ) (d : X) (e : Y) → i < length xs → i < length ys →
    d ≡ get_or xs i d → e ≡ get_or ys i e → false ≡ E d e → pointwise E (drop i xs) (drop i ys) ≡ false
pointwise_stops E xs ys i d e h g p q m =
    pointwise_step E xs ys i d e h g ∙ ap (λ r. r && pointwise E (drop (i + 1) xs) (drop (i + 1) ys)) (sym (m ∙ ap (λ x. E x e) p ∙ ap (λ y. E (get_or xs i d) y) q))
