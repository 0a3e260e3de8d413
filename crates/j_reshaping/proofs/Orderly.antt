-- Results in order, one by one.
use Rattle.std.proofs.Common.{◌≡◌, ◌<◌, ◌≤◌, ◌+◌, ℕ, List, [], ◌∷◌, ◌++◌, length, map, take, drop, get_or, refl, sym, ap, ◌∙◌, Result, Ok, Err}
use Rattle.std.proofs.lemmas.List.{map-append, take_more, take_all, take-append-drop, drop_more}
use Rattle.j_definitions.specs.Cells.{with_first, in_order}

all_given : {Y E : Type 0} (ys : List Y) → in_order {C = Y} {E = E} (map Ok ys) ≡ Ok ys
all_given [] = refl
all_given {Y = Y} {E = E} (y ∷ ys) = ap (with_first {C = Y} {E = E} y) (all_given ys)

first_fault : {Y E : Type 0} (ys : List Y) (e : E) (rest : List (Result Y E)) → in_order (map Ok ys ++ Err e ∷ rest) ≡ Err e
first_fault [] e rest = refl
first_fault {Y = Y} {E = E} (y ∷ ys) e rest = ap (with_first {C = Y} {E = E} y) (first_fault ys e rest)

-- one more result
pub orderly_more : {X Y E : Type 0} (f : X → Result Y E) (xs : List X) (i : ℕ) (d : X) (ys : List Y) (y : Y) → i < length xs → map f (take i xs) ≡ map Ok ys → f (get_or xs i d) ≡ Ok y →
    map f (take (i + 1) xs) ≡ map Ok (ys ++ y ∷ [])
orderly_more {X = X} {Y = Y} {E = E} f xs i d ys y h before is =
    ap (map f) (take_more xs i d h) ∙ map-append f (take i xs) (get_or xs i d ∷ []) ∙ ap (λ rs. rs ++ f (get_or xs i d) ∷ []) before
    ∙ ap (λ (r : Result Y E). map Ok ys ++ r ∷ []) is ∙ sym (map-append Ok ys (y ∷ []))

-- the first fault
pub orderly_fault : {X Y E : Type 0} (f : X → Result Y E) (xs : List X) (i : ℕ) (d : X) (ys : List Y) (e : E) → i < length xs → map f (take i xs) ≡ map Ok ys → f (get_or xs i d) ≡ Err e →
    in_order (map f xs) ≡ Err e
orderly_fault {X = X} {Y = Y} {E = E} f xs i d ys e h before is =
    let rest : List (Result Y E) = map f (drop (i + 1) xs) in
    ap (λ us. in_order (map f us)) (sym (take-append-drop i xs)) ∙ ap in_order (map-append f (take i xs) (drop i xs)) ∙ ap (λ rs. in_order (rs ++ map f (drop i xs))) before
    ∙ ap (λ us. in_order (map {B = Result Y E} Ok ys ++ map f us)) (drop_more xs i d h)
    ∙ ap (λ (r : Result Y E). in_order (map Ok ys ++ r ∷ rest)) is ∙ first_fault ys e rest

-- all results
pub orderly_all : {X Y E : Type 0} (f : X → Result Y E) (xs : List X) (i : ℕ) (ys : List Y) → length xs ≤ i → map f (take i xs) ≡ map Ok ys → in_order (map f xs) ≡ Ok ys
orderly_all {X = X} {Y = Y} {E = E} f xs i ys h before = ap (λ us. in_order (map f us)) (sym (take_all i xs h)) ∙ ap in_order before ∙ all_given ys

pub map-map : {X Y Z : Type 0} (f : Y → Z) (g : X → Y) (xs : List X) → map f (map g xs) ≡ map (λ x. f (g x)) xs
map-map f g [] = refl
map-map f g (x ∷ xs) = ap (λ r. f (g x) ∷ r) (map-map f g xs)
