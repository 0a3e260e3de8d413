-- The rows and the sizes of boxes, by the nouns in them.
use Rattle.std.proofs.Common.{◌≡◌, ◌≢◌, ℕ, ◌+◌, ◌<◌, ◌≤◌, List, [], ◌∷◌, ◌++◌, length, map, take, drop, get_or, replicate, refl, sym, ap, ◌∙◌, arith, Result, Ok, Err, IfOk, OnOk}
use Prim.Native.Nat.{zero, suc}
use Rattle.std.specs.List.{flat_map}
use Rattle.std.proofs.lemmas.List.{take_more, map-append}
use Rattle.j_definitions.specs.Array.{Array, Atom, row_of, boxed, product, level, greatest_level}
use Rattle.j_noun.specs.Viewed.{viewed}
use Rattle.j_noun.specs.declared.view.View.{View}
use Rattle.j_definitions.specs.declared.Kind.{Kind}
use Rattle.j_definitions.specs.declared.Kind.TheVariants.{Number, Character, Boxed}
use Rattle.j_definitions.specs.Stored.{atoms_in-row_of}
use Rattle.j_display.specs.Rows.{line_frame, line_length, lines_stacked, rows_without_atoms, rows_of, content_rows, contents_rows, noun_rows, box_rows}
use Rattle.j_display.proofs.Own.{room_written}
use Rattle.j_display.specs.Measured.{own_sizes, sizes_of, content_sizes, contents_sizes, noun_sizes}

contents_rows-row_of : (xs : List Atom) → contents_rows (row_of xs) ≡ map content_rows xs
contents_rows-row_of [] = refl
contents_rows-row_of (x ∷ xs) = ap (λ r. content_rows x ∷ r) (contents_rows-row_of xs)

contents_sizes-row_of : (xs : List Atom) → contents_sizes (row_of xs) ≡ flat_map content_sizes xs
contents_sizes-row_of [] = refl
contents_sizes-row_of (x ∷ xs) = ap (λ r. content_sizes x ++ r) (contents_sizes-row_of xs)

content_rows-boxed : (y : Array) → content_rows (boxed y) ≡ noun_rows y
content_rows-boxed y = ap (λ xs. rows_of y.kind y.shape xs (contents_rows (row_of y.atoms))) (atoms_in-row_of y.atoms) ∙ ap (rows_of y.kind y.shape y.atoms) (contents_rows-row_of y.atoms)

content_sizes-boxed : (y : Array) → content_sizes (boxed y) ≡ noun_sizes y
content_sizes-boxed y =
    ap (λ xs. sizes_of y.kind y.shape xs (contents_rows (row_of y.atoms)) (contents_sizes (row_of y.atoms))) (atoms_in-row_of y.atoms)
    ∙ ap (λ c. sizes_of y.kind y.shape y.atoms c (contents_sizes (row_of y.atoms))) (contents_rows-row_of y.atoms)
    ∙ ap (sizes_of y.kind y.shape y.atoms (map content_rows y.atoms)) (contents_sizes-row_of y.atoms)

rows_of_boxed : (cs : List Array) → map content_rows (map boxed cs) ≡ map noun_rows cs
rows_of_boxed [] = refl
rows_of_boxed (c ∷ cs) = ap (λ r. r ∷ map content_rows (map boxed cs)) (content_rows-boxed c) ∙ ap (λ r. noun_rows c ∷ r) (rows_of_boxed cs)

sizes_of_boxed : (cs : List Array) → flat_map content_sizes (map boxed cs) ≡ flat_map noun_sizes cs
sizes_of_boxed [] = refl
sizes_of_boxed (c ∷ cs) = ap (λ r. r ++ flat_map content_sizes (map boxed cs)) (content_sizes-boxed c) ∙ ap (λ r. noun_sizes c ++ r) (sizes_of_boxed cs)

-- a noun of boxes
boxes_rows : (s : List ℕ) (cs : List Array) → 0 < length cs → rows_of Boxed s (map boxed cs) (map content_rows (map boxed cs)) ≡ box_rows s (map noun_rows cs)
boxes_rows s [] h = absurd (omega arith)
boxes_rows s (c ∷ cs) h = ap (box_rows s) (rows_of_boxed (c ∷ cs))

boxes_sizes : (s : List ℕ) (cs : List Array) → 0 < length cs →
    sizes_of Boxed s (map boxed cs) (map content_rows (map boxed cs)) (flat_map content_sizes (map boxed cs)) ≡ own_sizes s (map noun_rows cs) ++ flat_map noun_sizes cs
boxes_sizes s [] h = absurd (omega arith)
boxes_sizes s (c ∷ cs) h = ap (λ r. own_sizes s r ++ flat_map content_sizes (map boxed (c ∷ cs))) (rows_of_boxed (c ∷ cs)) ∙ ap (λ r. own_sizes s (map noun_rows (c ∷ cs)) ++ r) (sizes_of_boxed (c ∷ cs))

pub boxed_rows : (y : Array) (cs : List Array) → y.kind ≡ Boxed → y.atoms ≡ map boxed cs → 0 < length cs → noun_rows y ≡ box_rows y.shape (map noun_rows cs)
boxed_rows y cs ek ea some = ap (λ k. rows_of k y.shape y.atoms (map content_rows y.atoms)) ek ∙ ap (λ xs. rows_of Boxed y.shape xs (map content_rows xs)) ea ∙ boxes_rows y.shape cs some

pub boxed_sizes : (y : Array) (cs : List Array) → y.kind ≡ Boxed → y.atoms ≡ map boxed cs → 0 < length cs → noun_sizes y ≡ own_sizes y.shape (map noun_rows cs) ++ flat_map noun_sizes cs
boxed_sizes y cs ek ea some =
    ap (λ k. sizes_of k y.shape y.atoms (map content_rows y.atoms) (flat_map content_sizes y.atoms)) ek ∙ ap (λ xs. sizes_of Boxed y.shape xs (map content_rows xs) (flat_map content_sizes xs)) ea ∙ boxes_sizes y.shape cs some

-- a noun of numbers or characters
leaf_of : (k : Kind) (s : List ℕ) (xs : List Atom) (c : List (List (List ℕ))) → k ≢ Boxed → 0 < length xs → rows_of k s xs c ≡ lines_stacked k (line_frame s) (line_length s) xs
leaf_of k s [] c h some = absurd (omega arith)
leaf_of Number s (x ∷ xs) c h some = refl
leaf_of Character s (x ∷ xs) c h some = refl
leaf_of Boxed s (x ∷ xs) c h some = absurd (h refl)

leaf_sizes_of : (k : Kind) (s : List ℕ) (xs : List Atom) (c : List (List (List ℕ))) (i : List ℕ) → k ≢ Boxed → sizes_of k s xs c i ≡ []
leaf_sizes_of Number s xs c i h = refl
leaf_sizes_of Character s xs c i h = refl
leaf_sizes_of Boxed s xs c i h = absurd (h refl)

pub leaf_rows : (y : Array) (k : Kind) (xs : List Atom) → k ≡ y.kind → xs ≡ y.atoms → k ≢ Boxed → 0 < length xs → noun_rows y ≡ lines_stacked k (line_frame y.shape) (line_length y.shape) xs
leaf_rows y k xs ek ex h some =
    sym (ap (λ j. rows_of j y.shape y.atoms (map content_rows y.atoms)) ek) ∙ sym (ap (λ zs. rows_of k y.shape zs (map content_rows zs)) ex) ∙ leaf_of k y.shape xs (map content_rows xs) h some

pub leaf_sizes : (y : Array) (k : Kind) → k ≡ y.kind → k ≢ Boxed → noun_sizes y ≡ []
leaf_sizes y k ek h = sym (ap (λ j. sizes_of j y.shape y.atoms (map content_rows y.atoms) (flat_map content_sizes y.atoms)) ek) ∙ leaf_sizes_of k y.shape y.atoms (map content_rows y.atoms) (flat_map content_sizes y.atoms) h

-- a noun without atoms
empty_of : (k : Kind) (s : List ℕ) (xs : List Atom) (c : List (List (List ℕ))) → length xs ≡ 0 → rows_of k s xs c ≡ rows_without_atoms s
empty_of k s [] c h = refl
empty_of k s (x ∷ xs) c h = absurd (omega arith)

empty_sizes_of : (k : Kind) (s : List ℕ) (xs : List Atom) (c : List (List (List ℕ))) (i : List ℕ) → length xs ≡ 0 → sizes_of k s xs c i ≡ []
empty_sizes_of Number s [] c i h = refl
empty_sizes_of Character s [] c i h = refl
empty_sizes_of Boxed s [] c i h = refl
empty_sizes_of k s (x ∷ xs) c i h = absurd (omega arith)

pub no_rows : (y : Array) → length y.atoms ≡ 0 → noun_rows y ≡ rows_without_atoms y.shape
no_rows y h = empty_of y.kind y.shape y.atoms (map content_rows y.atoms) h

pub no_sizes : (y : Array) → length y.atoms ≡ 0 → noun_sizes y ≡ []
no_sizes y h = empty_sizes_of y.kind y.shape y.atoms (map content_rows y.atoms) (flat_map content_sizes y.atoms) h

-- what a view of boxes says of its noun
pub boxes_atoms : (y : Array) (v : View) (cs : List Array) → viewed v ≡ y.atoms → viewed v ≡ map boxed cs → y.atoms ≡ map boxed cs
boxes_atoms y v cs ev ec = sym ev ∙ ec

pub boxes_level : (y : Array) (cs : List Array) → y.atoms ≡ map boxed cs → greatest_level (map boxed cs) ≡ level y
boxes_level y cs e = sym (ap greatest_level e)

pub part_level : (cs : List Array) (i n : ℕ) → greatest_level (map boxed (take n (drop i cs))) ≤ greatest_level (map boxed cs)
part_level [] zero zero = omega arith
part_level [] zero (suc n) = omega arith
part_level [] (suc i) zero = omega arith
part_level [] (suc i) (suc n) = omega arith
part_level (c ∷ cs) zero zero = omega arith
part_level (c ∷ cs) zero (suc n) = omega (arith, part_level cs zero n)
part_level (c ∷ cs) (suc i) n = omega (arith, part_level cs i n)

pub map_more : {X Y : Type 0} (f : X → Y) (xs : List X) (i : ℕ) (d : X) → i < length xs → map f (take (i + 1) xs) ≡ map f (take i xs) ++ f (get_or xs i d) ∷ []
map_more f xs i d h = ap (map f) (take_more xs i d h) ∙ map-append f (take i xs) (get_or xs i d ∷ [])

-- a noun of boxes with its sizes written behind others
pub boxes_written : (y : Array) (cs : List Array) (old now new : List ℕ) (start : ℕ) (shape : List ℕ) → shape ≡ y.shape → y.kind ≡ Boxed → y.atoms ≡ map boxed cs → 0 < length cs →
    now ≡ (old ++ replicate (line_length shape + product (line_frame shape)) 0) ++ flat_map noun_sizes cs → start ≡ length old →
    new ≡ take start now ++ (own_sizes shape (map noun_rows cs) ++ drop (start + (line_length shape + product (line_frame shape))) now) → new ≡ old ++ noun_sizes y
boxes_written y cs old now new start shape es ek ea some en est e =
    room_written old (own_sizes shape (map noun_rows cs)) (flat_map noun_sizes cs) now new start (line_length shape + product (line_frame shape)) en est e
    ∙ ap (λ s. old ++ (own_sizes s (map noun_rows cs) ++ flat_map noun_sizes cs)) es ∙ ap (λ t. old ++ t) (sym (boxed_sizes y cs ek ea some))

pub if_ok : {A E : Type 0} (P Q : A → Type 0) (r : Result A E) → ((x : A) → P x → Q x) → IfOk r P → IfOk r Q
if_ok P Q (Ok x) f h = f x h
if_ok P Q (Err e) f h = h

pub on_ok : {A E : Type 0} (P Q : Type 0) (r : Result A E) → (P → Q) → OnOk r P → OnOk r Q
on_ok P Q (Ok x) f h = f h
on_ok P Q (Err e) f h = h

pub always_ok : {A E : Type 0} (P : Type 0) (r : Result A E) → P → OnOk r P
always_ok P (Ok x) h = h
always_ok P (Err e) h = tt
