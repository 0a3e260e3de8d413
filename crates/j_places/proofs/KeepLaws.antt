-- Nouns that are kept by a list of numbers.
use Rattle.std.proofs.Common.{◌≡◌, ◌<◌, ◌≤◌, ◌+◌, ℕ, ℤ, pos, min, max, true, nat_le, cond, List, [], ◌∷◌, ◌++◌, length, map, take, drop, replicate, get_or, arith, refl, sym, ap, ◌∙◌, subst, Option, Result, Ok, Err, IfOk}
use Prim.Native.Nat.{zero, suc}
use Rattle.std.specs.List.{All}
use Rattle.std.proofs.Math.Dec.{eqb-suc-zero}
use Rattle.std.proofs.lemmas.Bool.{le-leb}
use Rattle.std.proofs.lemmas.List.{map-append, length-map, length-replicate, take_more, take_all, take-append-drop, nil_from_length, length_push}
use Rattle.std.proofs.lemmas.List.Elements.{All-push}
use Rattle.j_definitions.specs.Array.{Array, Atom, number, product, fill_atom}
use Rattle.j_definitions.specs.Cells.{in_order, with_first}
use Rattle.j_definitions.specs.Limits.{limited}
use Rattle.j_definitions.proofs.Limits.{limited-Err, many_beyond}
use Rattle.j_definitions.specs.declared.Kind.{Kind}
use Rattle.j_definitions.specs.declared.Fault.{Fault}
use Rattle.j_definitions.specs.declared.Fault.TheVariants.{Domain, Length, Limit}
use Rattle.j_noun.specs.declared.noun.Atoms.{Atoms}
use Rattle.j_noun.specs.Held.{AreAtoms}
use Rattle.j_places.specs.AxisPlaces.{numbers, number_of, kept, kept_axes, kept_shape, kept_atoms, keep, kept_by, axes_for, axes_or_ones}
use Rattle.j_places.specs.Axes.{places_of, extents, none_of, IsAxis}
use Rattle.j_places.specs.declared.axis.Axis.{Axis}
use Rattle.j_places.specs.declared.axis.Keeping.{Keeping}
use Rattle.j_places.specs.declared.axis.Keeping.TheVariants.{Taken, Dropped, Rotated}
use Rattle.j_places.proofs.KeptLaws.{AreIn, places_in, length-kept_atoms, kept_without_atoms, tail_product, tail_shape, tail_kept}
use Rattle.std.proofs.lemmas.List.Elements.{All-head, All-tail}

abbrev read : List Atom → Result (List ℤ) Fault
read xs = in_order (map number_of xs)

read_wholes : (zs : List ℤ) → read (map number zs) ≡ Ok zs
read_wholes [] = refl
read_wholes (z ∷ zs) = ap (with_first z) (read_wholes zs)

pub wholes_read : (x : Array) (zs ns : List ℤ) → map number zs ≡ x.atoms → ns ≡ zs → numbers x ≡ Ok ns
wholes_read x zs ns e is = ap read (sym e) ∙ read_wholes zs ∙ ap (λ ms. let r : Result (List ℤ) Fault = Ok ms in r) (sym is)

read_bits : (bs : List ℕ) → read (map (λ b. number (pos b)) bs) ≡ Ok (map (λ b. pos b) bs)
read_bits [] = refl
read_bits (b ∷ bs) = ap (with_first (pos b)) (read_bits bs)

pub bits_read : (x : Array) (bs : List ℕ) (ns : List ℤ) → map (λ b. number (pos b)) bs ≡ x.atoms → ns ≡ map (λ b. pos b) bs → numbers x ≡ Ok ns
bits_read x bs ns e is = ap read (sym e) ∙ read_bits bs ∙ ap (λ ms. let r : Result (List ℤ) Fault = Ok ms in r) (sym is)

read_none : {X : Type 0} (f : X → Atom) → ((x : X) → number_of (f x) ≡ Err Domain) → (xs : List X) → read (map f xs) ≡ none_of (length xs)
read_none f h [] = refl
read_none f h (x ∷ xs) =
    ap (λ r. in_order (r ∷ map number_of (map f xs))) (h x) ∙ sym (ap (λ b. let r : Result (List ℤ) Fault = cond b (Ok []) (Err Domain) in r) (eqb-suc-zero (length xs)))

pub others_read : {X : Type 0} (f : X → Atom) → ((x : X) → number_of (f x) ≡ Err Domain) → (x : Array) (xs : List X) → map f xs ≡ x.atoms → none_of (length xs) ≡ numbers x
others_read f h x xs e = sym (read_none f h xs) ∙ ap read e

pub none_beyond : (n : ℕ) → 0 < n → none_of n ≡ Err Domain
none_beyond zero h = absurd (omega arith)
none_beyond (suc n) h = ap (λ b. let r : Result (List ℤ) Fault = cond b (Ok []) (Err Domain) in r) (eqb-suc-zero n)

pub none_there : (n : ℕ) → n ≤ 0 → none_of n ≡ Ok []
none_there zero h = refl
none_there (suc n) h = absurd (omega arith)

-- the axes one by one
kept_more : (way : Keeping) (ks : List ℤ) (s : List ℕ) (i : ℕ) (dk : ℤ) (dn : ℕ) → i < length ks → i < length s →
    kept_axes way (take (i + 1) ks) (take (i + 1) s) ≡ kept_axes way (take i ks) (take i s) ++ kept way (get_or ks i dk) (get_or s i dn) ∷ []
kept_more way [] s i dk dn h g = absurd (omega arith)
kept_more way (k ∷ ks) [] i dk dn h g = absurd (omega arith)
kept_more way (k ∷ ks) (n ∷ s) zero dk dn h g = refl
kept_more way (k ∷ ks) (n ∷ s) (suc i) dk dn h g =
    let next : suc i + 1 ≡ suc (i + 1) = omega arith in
    ap (λ j. kept_axes way (take j (k ∷ ks)) (take j (n ∷ s))) next ∙ ap (λ r. kept way k n ∷ r) (kept_more way ks s i dk dn (omega arith) (omega arith))

pub places_more : (way : Keeping) (ks : List ℤ) (s : List ℕ) (i : ℕ) (dk : ℤ) (dn : ℕ) (axes new : List Axis) (a : Axis) → i < length ks → i < length s → new ≡ axes ++ a ∷ [] → map places_of axes ≡ kept_axes way (take i ks) (take i s) →
    places_of a ≡ kept way (get_or ks i dk) (get_or s i dn) → map places_of new ≡ kept_axes way (take (i + 1) ks) (take (i + 1) s)
places_more way ks s i dk dn axes new a h g more before is =
    ap (map places_of) more ∙ map-append places_of axes (a ∷ []) ∙ ap (λ r. r ++ places_of a ∷ []) before
    ∙ ap (λ ps. kept_axes way (take i ks) (take i s) ++ ps ∷ []) is ∙ sym (kept_more way ks s i dk dn h g)

pub extents_more : (s : List ℕ) (i d : ℕ) (axes new : List Axis) (a : Axis) → i < length s → new ≡ axes ++ a ∷ [] → map (λ b. b.extent) axes ≡ take i s → a.extent ≡ get_or s i d → map (λ b. b.extent) new ≡ take (i + 1) s
extents_more s i d axes new a h more before is =
    ap (map (λ (b : Axis). b.extent)) more ∙ map-append (λ (b : Axis). b.extent) axes (a ∷ []) ∙ ap (λ r. r ++ a.extent ∷ []) before ∙ ap (λ n. take i s ++ n ∷ []) is ∙ sym (take_more s i d h)

pub count_more : (axes new : List Axis) (a : Axis) (i : ℕ) → new ≡ axes ++ a ∷ [] → length axes ≡ i → length new ≡ i + 1
count_more axes new a i more e = ap length more ∙ length_push axes a ∙ ap (λ n. n + 1) e

pub axes_more : (axes new : List Axis) (a : Axis) → new ≡ axes ++ a ∷ [] → All IsAxis axes → IsAxis a → All IsAxis new
axes_more axes new a more h g = subst (λ (l : List Axis). All IsAxis l) (sym more) (All-push IsAxis axes a h g)

pub kept_all : (way : Keeping) (m : ℕ) (ks : List ℤ) (s : List ℕ) → min (length ks) (length s) ≤ m → kept_axes way (take m ks) (take m s) ≡ kept_axes way ks s
kept_all way zero [] s h = refl
kept_all way zero (k ∷ ks) [] h = refl
kept_all way zero (k ∷ ks) (n ∷ s) h = absurd (omega arith)
kept_all way (suc m) [] s h = refl
kept_all way (suc m) (k ∷ ks) [] h = refl
kept_all way (suc m) (k ∷ ks) (n ∷ s) h = ap (λ r. kept way k n ∷ r) (kept_all way m ks s (omega arith))

-- the shape in two parts
shape_split : (pss : List (List (Option ℕ))) (s : List ℕ) → length pss ≤ length s → kept_shape pss s ≡ map length pss ++ drop (length pss) s
shape_split [] s h = refl
shape_split (ps ∷ more) [] h = absurd (omega arith)
shape_split (ps ∷ more) (n ∷ s) h = ap (λ r. length ps ∷ r) (shape_split more s (omega arith))

pub shape_made : (axes : List Axis) (s rest so_far shape : List ℕ) (i : ℕ) → length axes ≤ i → length axes ≤ length s → so_far ≡ map length (map places_of (take i axes)) → rest ≡ drop (length axes) s → shape ≡ so_far ++ rest →
    shape ≡ kept_shape (map places_of axes) s
shape_made axes s rest so_far shape i h g before r is =
    let many : length (map places_of axes) ≡ length axes = length-map axes places_of in
    is ∙ ap (λ l. l ++ rest) (before ∙ ap (λ (l : List Axis). map length (map places_of l)) (take_all i axes h)) ∙ ap (λ l. map length (map places_of axes) ++ l) (r ∙ ap (λ n. drop n s) (sym many))
    ∙ sym (shape_split (map places_of axes) s (omega arith))

pub length-kept_shape : (pss : List (List (Option ℕ))) (s : List ℕ) → length (kept_shape pss s) ≡ length s
length-kept_shape [] s = refl
length-kept_shape (ps ∷ more) [] = refl
length-kept_shape (ps ∷ more) (n ∷ s) = omega (arith, length-kept_shape more s)

-- the axes that have numbers, and the others as one
pub lengths_split : (axes : List Axis) (s : List ℕ) → map (λ a. a.extent) axes ≡ take (length axes) s → s ≡ map (λ a. a.extent) axes ++ drop (length axes) s
lengths_split axes s e = sym (take-append-drop (length axes) s) ∙ ap (λ l. l ++ drop (length axes) s) (sym e)

in_axes : (axes : List Axis) (t : List ℕ) → All IsAxis axes → AreIn (map places_of axes) (map (λ a. a.extent) axes ++ t)
in_axes [] t h = tt
in_axes (a ∷ axes) t h = (places_in a (All-head IsAxis a axes h), in_axes axes t (All-tail IsAxis a axes h))

pub in_lengths : (axes : List Axis) (s : List ℕ) → All IsAxis axes → map (λ a. a.extent) axes ≡ take (length axes) s → AreIn (map places_of axes) s
in_lengths axes s h e = subst (λ l. AreIn (map places_of axes) l) (sym (lengths_split axes s e)) (in_axes axes (drop (length axes) s) h)

same_count : (axes : List Axis) → length (map places_of axes) ≡ length (map (λ a. a.extent) axes)
same_count axes = length-map axes places_of ∙ sym (length-map axes (λ (a : Axis). a.extent))

unit_is : (axes : List Axis) (s rest : List ℕ) (unit : ℕ) → rest ≡ drop (length axes) s → unit ≡ product rest → unit ≡ product (drop (length axes) s)
unit_is axes s rest unit r u = u ∙ ap product r

pub extents_many : (axes : List Axis) (s rest : List ℕ) (unit : ℕ) → map (λ a. a.extent) axes ≡ take (length axes) s → rest ≡ drop (length axes) s → unit ≡ product rest → product s ≡ product (extents axes unit)
extents_many axes s rest unit e r u =
    ap product (lengths_split axes s e) ∙ tail_product (map (λ (a : Axis). a.extent) axes) (drop (length axes) s) ∙ ap (λ n. product (extents axes n)) (sym (unit_is axes s rest unit r u))

pub extents_kept : (axes : List Axis) (s rest : List ℕ) (unit : ℕ) → map (λ a. a.extent) axes ≡ take (length axes) s → rest ≡ drop (length axes) s → unit ≡ product rest →
    product (kept_shape (map places_of axes) s) ≡ product (kept_shape (map places_of axes) (extents axes unit))
extents_kept axes s rest unit e r u =
    ap (λ l. product (kept_shape (map places_of axes) l)) (lengths_split axes s e) ∙ tail_shape (map places_of axes) (map (λ (a : Axis). a.extent) axes) (drop (length axes) s) (same_count axes)
    ∙ ap (λ n. product (kept_shape (map places_of axes) (extents axes n))) (sym (unit_is axes s rest unit r u))

kept_same : (z : Atom) (axes : List Axis) (s rest : List ℕ) (unit : ℕ) (xs : List Atom) → map (λ a. a.extent) axes ≡ take (length axes) s → rest ≡ drop (length axes) s → unit ≡ product rest →
    kept_atoms z (map places_of axes) (extents axes unit) xs ≡ kept_atoms z (map places_of axes) s xs
kept_same z axes s rest unit xs e r u =
    ap (λ n. kept_atoms z (map places_of axes) (extents axes n) xs) (unit_is axes s rest unit r u)
    ∙ sym (ap (λ l. kept_atoms z (map places_of axes) l xs) (lengths_split axes s e) ∙ tail_kept z (map places_of axes) (map (λ (a : Axis). a.extent) axes) (drop (length axes) s) xs (same_count axes))

if_ok_as : {E : Type 0} (r : Result Atoms E) (k j : Kind) (xs ys : List Atom) → k ≡ j → xs ≡ ys → IfOk r (λ a. AreAtoms a k xs) → IfOk r (λ a. AreAtoms a j ys)
if_ok_as (Ok a) k j xs ys e is are = record { kind = are.kind ∙ e; atoms = are.atoms ∙ is; bits = are.bits }
if_ok_as (Err f) k j xs ys e is are = tt

pub kept_of_is : {E : Type 0} (r : Result Atoms E) (y : Array) (k : Kind) (xs : List Atom) (axes : List Axis) (s rest : List ℕ) (unit : ℕ) → k ≡ y.kind → xs ≡ y.atoms → map (λ a. a.extent) axes ≡ take (length axes) s → rest ≡ drop (length axes) s →
    unit ≡ product rest → IfOk r (λ a. AreAtoms a k (kept_atoms (fill_atom k) (map places_of axes) (extents axes unit) xs)) → IfOk r (λ a. AreAtoms a y.kind (kept_atoms (fill_atom y.kind) (map places_of axes) s y.atoms))
kept_of_is r y k xs axes s rest unit kind is e o u h =
    if_ok_as r k y.kind _ _ kind
    (ap (λ j. kept_atoms (fill_atom j) (map places_of axes) (extents axes unit) xs) kind ∙ ap (kept_atoms (fill_atom y.kind) (map places_of axes) (extents axes unit)) is
    ∙ kept_same (fill_atom y.kind) axes s rest unit y.atoms e o u) h

pub fills_kept : {E : Type 0} (r : Result Atoms E) (y : Array) (k : Kind) (axes : List Axis) (s : List ℕ) (size : ℕ) → k ≡ y.kind → All IsAxis axes → map (λ a. a.extent) axes ≡ take (length axes) s → length y.atoms ≡ product s →
    size ≡ product (kept_shape (map places_of axes) s) → (0 < size → product s ≡ 0) → IfOk r (λ a. AreAtoms a k (replicate size (fill_atom k))) → IfOk r (λ a. AreAtoms a y.kind (kept_atoms (fill_atom y.kind) (map places_of axes) s y.atoms))
fills_kept r y k axes s zero kind are e many is none h =
    if_ok_as r k y.kind _ _ kind (sym (nil_from_length _ (length-kept_atoms (fill_atom y.kind) (map places_of axes) s y.atoms (in_lengths axes s are e) many ∙ sym is))) h
fills_kept r y k axes s (suc n) kind are e many is none h =
    if_ok_as r k y.kind _ _ kind
    (ap (λ j. replicate (suc n) (fill_atom j)) kind ∙ ap (λ m. replicate m (fill_atom y.kind)) is
    ∙ sym (kept_without_atoms (fill_atom y.kind) (map places_of axes) s y.atoms (in_lengths axes s are e) many (none (omega arith)))) h

-- too many atoms
pub kept_many : (y : Array) (axes : List Axis) (s : List ℕ) → All IsAxis axes → map (λ a. a.extent) axes ≡ take (length axes) s → length y.atoms ≡ product s →
    length (kept_atoms (fill_atom y.kind) (map places_of axes) s y.atoms) ≡ product (kept_shape (map places_of axes) s)
kept_many y axes s are e many = length-kept_atoms (fill_atom y.kind) (map places_of axes) s y.atoms (in_lengths axes s are e) many

pub kept_beyond : (y : Array) (axes : List Axis) (s shape : List ℕ) → All IsAxis axes → map (λ a. a.extent) axes ≡ take (length axes) s → length y.atoms ≡ product s → shape ≡ kept_shape (map places_of axes) s → 4194304 < product shape →
    limited (keep (map places_of axes) s y) ≡ Err Limit
kept_beyond y axes s shape are e many is beyond = many_beyond (keep (map places_of axes) s y) (omega (arith, kept_many y axes s are e many, ap product is))

-- too many axes
ones_product : (n : ℕ) → product (replicate n 1) ≡ 1
ones_product zero = refl
ones_product (suc n) = omega (arith, ones_product n)

own_product : (n : ℕ) (s : List ℕ) → product (axes_or_ones n s) ≡ product s
own_product n [] = ones_product n
own_product n (m ∷ s) = refl

pub axes_product : (way : Keeping) (n : ℕ) (s : List ℕ) → product (axes_for way n s) ≡ product s
axes_product Taken n s = own_product n s
axes_product Dropped n s = own_product n s
axes_product Rotated n s = refl

pub rank_beyond : (way : Keeping) (r : Result (List ℤ) Fault) (ks : List ℤ) (y : Array) (n : ℕ) → r ≡ Ok ks → n ≡ length ks → 32 < n → axes_for way n y.shape ≡ replicate n 1 → kept_by way r y ≡ Err Limit
rank_beyond way r ks y n e is many ones =
    let axes : List ℕ = axes_for way (length ks) y.shape in
    let all : length axes ≡ length ks = ap (λ m. length (axes_for way m y.shape)) (sym is) ∙ ap length ones ∙ length-replicate n 1 ∙ is in
    let within : nat_le (length ks) (max (length axes) 1) ≡ true = le-leb (length ks) (max (length axes) 1) (omega arith) in
    ap (λ q. kept_by way q y) e ∙ ap (λ b. let q : Result Array Fault = cond b (limited (keep (kept_axes way ks axes) axes y)) (Err Length) in q) within
    ∙ limited-Err (keep (kept_axes way ks axes) axes y) (λ w. omega (arith, w.rank, length-kept_shape (kept_axes way ks axes) axes))
