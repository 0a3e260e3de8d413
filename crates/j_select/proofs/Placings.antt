-- Elements at the last of their places.
use Rattle.std.proofs.Common.{◌≡◌, ◌<◌, ◌≤◌, ◌+◌, ◌%◌, ℕ, Bool, true, false, nat_eq, cond, List, [], ◌∷◌, ◌++◌, length, map, take, set, get_or, arith, refl, sym, ap, ◌∙◌, Option, Some, None}
use Prim.Native.Nat.{zero, suc}
use Rattle.std.proofs.Math.ListN.{get_or-map}
use Rattle.std.proofs.lemmas.Bool.{eqb-true, eq-eqb}
use Rattle.std.proofs.lemmas.Nat.{mod_below}
use Rattle.std.proofs.lemmas.List.{length-map, length-take, take_more, set_past, get_or_default, nil_from_length}
use Rattle.j_definitions.specs.Array.{Atom}
use Rattle.j_select.specs.Amending.{later, last_at, placed, amended_from}
use Rattle.j_select.specs.Putting.{put_in}

by_test : (p q : ℕ) (b : Bool) → nat_eq p q ≡ b → (p ≡ q → ⊥) → b ≡ false
by_test p q true e h = absurd (h (eqb-true p q e))
by_test p q false e h = refl

differ : (p q : ℕ) → (p ≡ q → ⊥) → nat_eq p q ≡ false
differ p q h = by_test p q (nat_eq p q) refl h

later_of : (b d : Bool) (n : ℕ) (o : Option ℕ) → later (cond b (Some n) o) d ≡ cond b (Some (suc n)) (later o d)
later_of true d n o = refl
later_of false d n o = refl

-- one more place
last_more : (p q : ℕ) (places : List ℕ) (n : ℕ) → length places ≡ n → last_at p (places ++ q ∷ []) ≡ cond (nat_eq p q) (Some n) (last_at p places)
last_more p q [] zero e = refl
last_more p q [] (suc n) e = absurd (omega arith)
last_more p q (r ∷ places) zero e = absurd (omega arith)
last_more p q (r ∷ places) (suc n) e =
    let rest : length places ≡ n = omega arith in
    ap (λ o. later o (nat_eq p r)) (last_more p q places n rest) ∙ later_of (nat_eq p q) (nat_eq p r) n (last_at p places)

last_other : (p q : ℕ) (places : List ℕ) → (p ≡ q → ⊥) → last_at p (places ++ q ∷ []) ≡ last_at p places
last_other p q places h = last_more p q places (length places) refl ∙ ap (λ b. cond b (Some (length places)) (last_at p places)) (differ p q h)

last_same : (p q : ℕ) (places : List ℕ) (n : ℕ) → length places ≡ n → p ≡ q → last_at p (places ++ q ∷ []) ≡ Some n
last_same p q places n e h = last_more p q places n e ∙ ap (λ b. cond b (Some n) (last_at p places)) (eq-eqb p q h)

-- a place that is none of these changes nothing
pub unchanged : {X : Type 0} (p q : ℕ) (xs : List X) (places : List ℕ) (ys : List X) → ((j : ℕ) → j < length ys → p + j ≡ q → ⊥) → amended_from p xs (places ++ q ∷ []) ys ≡ amended_from p xs places ys
unchanged p q xs places [] h = refl
unchanged p q xs places (y ∷ ys) h =
    let first : p ≡ q → ⊥ = λ e. h 0 (omega arith) (omega arith) in
    ap (λ o. placed xs y o ∷ amended_from (suc p) xs (places ++ q ∷ []) ys) (last_other p q places first)
    ∙ ap (λ r. placed xs y (last_at p places) ∷ r) (unchanged (suc p) q xs places ys (λ j less e. h (suc j) (omega arith) (omega arith)))

-- and one of them changes its element
pub changed : {X : Type 0} (p q i n : ℕ) (x : X) (xs : List X) (places : List ℕ) (ys : List X) → length places ≡ n → n % length xs < length xs → x ≡ get_or xs (n % length xs) x → q ≡ p + i → i < length ys →
    amended_from p xs (places ++ q ∷ []) ys ≡ set (amended_from p xs places ys) i x
changed p q i n x xs places [] many within is e less = absurd (omega arith)
changed p q zero n x xs places (y ∷ ys) many within is e less =
    let same : p ≡ q = omega arith in
    ap (λ o. placed xs y o ∷ amended_from (suc p) xs (places ++ q ∷ []) ys) (last_same p q places n many same)
    ∙ ap (λ w. w ∷ amended_from (suc p) xs (places ++ q ∷ []) ys) (get_or_default xs (n % length xs) y x within ∙ sym is)
    ∙ ap (λ r. x ∷ r) (unchanged (suc p) q xs places ys (λ j below f. omega arith))
changed p q (suc i) n x xs places (y ∷ ys) many within is e less =
    let first : p ≡ q → ⊥ = λ f. omega arith in
    let next : q ≡ suc p + i = omega arith in
    let fewer : i < length ys = omega arith in
    ap (λ o. placed xs y o ∷ amended_from (suc p) xs (places ++ q ∷ []) ys) (last_other p q places first)
    ∙ ap (λ r. placed xs y (last_at p places) ∷ r) (changed (suc p) q i n x xs places ys many within is next fewer)

length-amended : {X : Type 0} (p : ℕ) (xs : List X) (places : List ℕ) (ys : List X) → length (amended_from p xs places ys) ≡ length ys
length-amended p xs places [] = refl
length-amended p xs places (y ∷ ys) = let rest = length-amended (suc p) xs places ys in omega arith

-- a place is within, or it isn't
data Side (q n : ℕ) : Type 0 where
  below : q < n → Side q n
  above : n ≤ q → Side q n

side_more : (q n : ℕ) → Side q n → Side (suc q) (suc n)
side_more q n (below w) = below (omega arith)
side_more q n (above w) = above (omega arith)

lt_or : (q n : ℕ) → Side q n
lt_or zero zero = above (omega arith)
lt_or zero (suc n) = below (omega arith)
lt_or (suc q) zero = above (omega arith)
lt_or (suc q) (suc n) = side_more q n (lt_or q n)

-- put at a place, within or not
put_beside : {X : Type 0} (q n : ℕ) (x : X) (xs : List X) (places : List ℕ) (ys : List X) → length places ≡ n → n % length xs < length xs → x ≡ get_or xs (n % length xs) x → Side q (length ys) →
    set (amended_from 1 xs places ys) q x ≡ amended_from 1 xs (places ++ suc q ∷ []) ys
put_beside q n x xs places ys many within is (below w) = sym (changed 1 (suc q) q n x xs places ys many within is (omega arith) w)
put_beside q n x xs places ys many within is (above w) =
    set_past (amended_from 1 xs places ys) q x (omega (arith, length-amended 1 xs places ys)) ∙ sym (unchanged 1 (suc q) xs places ys (λ j less e. omega arith))

put_one : {X : Type 0} (q n : ℕ) (x : X) (xs : List X) (places : List ℕ) (ys : List X) → length places ≡ n → n % length xs < length xs → x ≡ get_or xs (n % length xs) x →
    put_in (amended_from 1 xs places ys) q x ≡ amended_from 1 xs (places ++ q ∷ []) ys
put_one zero n x xs places ys many within is = sym (unchanged 1 zero xs places ys (λ j less e. omega arith))
put_one (suc q) n x xs places ys many within is = put_beside q n x xs places ys many within is (lt_or q (length ys))

first_many : {X : Type 0} (k : ℕ) (xs : List X) → k < length xs → length (take k xs) ≡ k
first_many k xs h = omega (arith, length-take k xs)

-- one more place of a list of them
pub put_more : {X : Type 0} (k q : ℕ) (x : X) (xs : List X) (places : List ℕ) (ys old new : List X) → k < length places → q ≡ get_or places k 0 → 0 < length xs → x ≡ get_or xs (k % length xs) x →
    old ≡ amended_from 1 xs (take k places) ys → new ≡ put_in old q x → new ≡ amended_from 1 xs (take (k + 1) places) ys
put_more k q x xs places ys old new h e some is before more =
    more ∙ ap (λ r. put_in r q x) before ∙ put_one q k x xs (take k places) ys (first_many k places h) (mod_below k (length xs) some) is
    ∙ ap (λ r. amended_from 1 xs (take k places ++ r ∷ []) ys) e ∙ ap (λ r. amended_from 1 xs r ys) (sym (take_more places k 0 h))

-- nothing to put, or nowhere
nothing_placed : {X : Type 0} (y : X) (o : Option ℕ) → placed [] y o ≡ y
nothing_placed y None = refl
nothing_placed y (Some k) = refl

pub nothing_put : {X : Type 0} (p : ℕ) (places : List ℕ) (ys : List X) → amended_from p (let none : List X = [] in none) places ys ≡ ys
nothing_put p places [] = refl
nothing_put {X = X} p places (y ∷ ys) = ap (λ w. w ∷ amended_from (suc p) (let none : List X = [] in none) places ys) (nothing_placed y (last_at p places)) ∙ ap (λ r. y ∷ r) (nothing_put (suc p) places ys)

pub put_nowhere : {X : Type 0} (p : ℕ) (xs ys : List X) → amended_from p xs [] ys ≡ ys
put_nowhere p xs [] = refl
put_nowhere p xs (y ∷ ys) = ap (λ r. y ∷ r) (put_nowhere (suc p) xs ys)

-- a function of each element
placed-map : {X Y : Type 0} (f : X → Y) (xs : List X) (y : X) (o : Option ℕ) → f (placed xs y o) ≡ placed (map f xs) (f y) o
placed-map f xs y None = refl
placed-map f xs y (Some k) = sym (get_or-map f xs (k % length xs) y) ∙ ap (λ n. get_or (map f xs) (k % n) (f y)) (sym (length-map xs f))

pub amended-map : {X Y : Type 0} (f : X → Y) (p : ℕ) (xs : List X) (places : List ℕ) (ys : List X) → map f (amended_from p xs places ys) ≡ amended_from p (map f xs) places (map f ys)
amended-map f p xs places [] = refl
amended-map f p xs places (y ∷ ys) =
    ap (λ w. w ∷ map f (amended_from (suc p) xs places ys)) (placed-map f xs y (last_at p places))
    ∙ ap (λ r. placed (map f xs) (f y) (last_at p places) ∷ r) (amended-map f (suc p) xs places ys)

-- the elements of a list are those of nothing where none are put
pub amended_nothing : {X : Type 0} (xs ys : List X) (places : List ℕ) → length xs ≡ 0 → amended_from 1 xs places ys ≡ ys
amended_nothing {X = X} xs ys places e = ap (λ (r : List X). amended_from 1 r places ys) (nil_from_length xs e) ∙ nothing_put 1 places ys

-- the same of the atoms that elements are
pub amended_as : {X : Type 0} (f : X → Atom) (xs ys zs : List X) (places : List ℕ) (left right : List Atom) → map f xs ≡ left → map f ys ≡ right → zs ≡ amended_from 1 xs places ys → map f zs ≡ amended_from 1 left places right
amended_as f xs ys zs places left right el er e =
    ap (map f) e ∙ amended-map f 1 xs places ys ∙ ap (λ (ls : List Atom). amended_from 1 ls places (map f ys)) el ∙ ap (λ (rs : List Atom). amended_from 1 left places rs) er

pub amended_many : (xs ys : List Atom) (places : List ℕ) → length (amended_from 1 xs places ys) ≡ length ys
amended_many xs ys places = length-amended 1 xs places ys
