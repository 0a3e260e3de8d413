-- All choices of one from each of some lists, in pieces by the first.
use Rattle.std.proofs.Common.{◌≡◌, ◌<◌, ◌≤◌, ◌+◌, ◌-◌, ◌*◌, ◌/◌, ℕ, ℤ, pos, unsigned_abs, List, [], ◌∷◌, ◌++◌, length, map, take, drop, get_or, arith, refl, sym, ap, ◌∙◌, add_assoc, append_assoc, Err}
use Prim.Native.Nat.{zero, suc}
use Rattle.std.specs.List.{flat_map, range_with_len}
use Rattle.std.proofs.Math.Nat.{mul-div_cancel_left, mul-le-mul_left, mul_comm}
use Rattle.std.proofs.lemmas.List.{map-append, length-append, length-map, drop_more, take_rest, nil_from_length}
use Rattle.std.proofs.lemmas.List.FromFn.{length-map-range_with_len, map-range_with_len_more}
use Rattle.j_definitions.specs.Array.{product, number}
use Rattle.j_definitions.specs.Limits.{limited}
use Rattle.j_definitions.proofs.Limits.{many_beyond}
use Rattle.j_definitions.specs.declared.Fault.TheVariants.{Limit}
use Rattle.j_rank.proofs.Paddings.{pieces_more}
use Rattle.j_rank.specs.Places.{place}
use Rattle.j_indices.specs.Choices.{choices}
use Rattle.j_indices.specs.Counting.{places_along, shape_along, turned, integers_from, integers_along}

pub map_map : {X Y Z : Type 0} (f : Y → Z) (g : X → Y) (xs : List X) → map f (map g xs) ≡ map (λ x. f (g x)) xs
map_map f g [] = refl
map_map f g (x ∷ xs) = ap (λ r. f (g x) ∷ r) (map_map f g xs)

pub map-flat_map : {X Y Z : Type 0} (f : Y → Z) (g : X → List Y) (xs : List X) → map f (flat_map g xs) ≡ flat_map (λ x. map f (g x)) xs
map-flat_map f g [] = refl
map-flat_map f g (x ∷ xs) = map-append f (g x) (flat_map g xs) ∙ ap (λ r. map f (g x) ++ r) (map-flat_map f g xs)

pub flat_map-map : {X Y Z : Type 0} (f : Y → List Z) (g : X → Y) (xs : List X) → flat_map f (map g xs) ≡ flat_map (λ x. f (g x)) xs
flat_map-map f g [] = refl
flat_map-map f g (x ∷ xs) = ap (λ r. f (g x) ++ r) (flat_map-map f g xs)

-- pieces of one length
pub flat_map_many : {X Y : Type 0} (f : X → List Y) (n : ℕ) → ((x : X) → length (f x) ≡ n) → (xs : List X) → length (flat_map f xs) ≡ length xs * n
flat_map_many f n h [] = omega arith
flat_map_many f n h (x ∷ xs) = omega (arith, length-append (f x) (flat_map f xs), h x, flat_map_many f n h xs)

pub length-choices : {X : Type 0} (xss : List (List X)) → length (choices xss) ≡ product (map (λ xs. length xs) xss)
length-choices [] = refl
length-choices (xs ∷ rest) = flat_map_many (λ x. map (λ c. x ∷ c) (choices rest)) (length (choices rest)) (λ x. length-map (choices rest) (λ c. x ∷ c)) xs ∙ ap (λ n. length xs * n) (length-choices rest)

pub integers_parts : (start : ℕ) (z : ℤ) (rest : List ℤ) →
    integers_from start (z ∷ rest) ≡ flat_map (λ k. integers_from (start + turned z k * product (shape_along rest)) rest) (range_with_len 0 (unsigned_abs z))
integers_parts start z rest =
    let all = choices (map places_along rest) in
    let s = shape_along rest in
    let at : List ℕ → ℤ = λ c. pos (start + place (shape_along (z ∷ rest)) c) in
    map-flat_map at (λ x. map (λ c. x ∷ c) all) (places_along z)
    ∙ (λ i. flat_map (λ x. map_map at (λ c. x ∷ c) all i) (places_along z))
    ∙ sym (λ i. flat_map (λ x. map (λ c. pos (add_assoc start (x * product s) (place s c) i)) all) (places_along z))
    ∙ flat_map-map (λ x. integers_from (start + x * product s) rest) (turned z) (range_with_len 0 (unsigned_abs z))

-- the integers at the first k places along an axis
abbrev pub parts : ℕ → ℤ → List ℤ → ℕ → ℕ → List ℤ
parts start z rest step k = flat_map (λ j. integers_from (start + turned z j * step) rest) (range_with_len 0 k)

pub integers_more : (start : ℕ) (z : ℤ) (rest : List ℤ) (step k at : ℕ) (out mid new : List ℤ) → at ≡ turned z k →
    mid ≡ out ++ parts start z rest step k → new ≡ mid ++ integers_from (start + at * step) rest → new ≡ out ++ parts start z rest step (k + 1)
integers_more start z rest step k at out mid new e before more =
    let piece : ℕ → List ℤ = λ j. integers_from (start + turned z j * step) rest in
    more ∙ ap (λ n. mid ++ integers_from (start + n * step) rest) e ∙ ap (λ r. r ++ piece k) before ∙ append_assoc out (parts start z rest step k) (piece k)
    ∙ ap (λ r. out ++ r) (sym (pieces_more piece k))

-- along one axis
pub axis_more : (start k at n : ℕ) (z : ℤ) (out mid new : List ℤ) → at ≡ turned z k → n ≡ start + at → mid ≡ out ++ parts start z [] 1 k → new ≡ mid ++ pos n ∷ [] → new ≡ out ++ parts start z [] 1 (k + 1)
axis_more start k at n z out mid new e is before more =
    let one : n ≡ start + at * 1 + 0 = omega (arith, is) in
    integers_more start z [] 1 k at out mid new e before (more ∙ ap (λ m. mid ++ pos m ∷ []) one)

pub axis_all : (start k : ℕ) (z : ℤ) (out mid : List ℤ) → k ≡ unsigned_abs z → mid ≡ out ++ parts start z [] 1 k → mid ≡ out ++ integers_from start (z ∷ [])
axis_all start k z out mid ended before = before ∙ ap (λ n. out ++ parts start z [] 1 n) ended ∙ ap (λ r. out ++ r) (sym (integers_parts start z []))

-- the one axis is not beyond the product
pub axis_fits : (start size : ℕ) (z : ℤ) (zs : List ℤ) → zs ≡ z ∷ [] → size ≡ product (shape_along zs) → start + size ≤ 4194304 → start + unsigned_abs z ≤ 4194304
axis_fits start size z zs split e few = omega (arith, e, few, ap (λ ys. product (shape_along ys)) split)

pub factor_left : (p q n : ℕ) → n ≡ p * q → 0 < n → 0 < p
factor_left zero q n e some = absurd (omega arith)
factor_left (suc p) q n e some = omega arith

factor_right : (p q n : ℕ) → n ≡ p * q → 0 < n → 0 < q
factor_right p zero n e some = absurd (omega arith)
factor_right p (suc q) n e some = omega arith

-- the product of the axes behind the first
pub step_is : (size count : ℕ) (z : ℤ) (rest zs : List ℤ) → zs ≡ z ∷ rest → size ≡ product (shape_along zs) → 0 < size → count ≡ unsigned_abs z → size / count ≡ product (shape_along rest)
step_is size count z rest zs split e some count_is =
    let whole : size ≡ unsigned_abs z * product (shape_along rest) = e ∙ ap (λ ys. product (shape_along ys)) split in
    ap (λ n. size / n) count_is ∙ ap (λ n. n / unsigned_abs z) whole ∙ mul-div_cancel_left (product (shape_along rest)) (factor_left (unsigned_abs z) (product (shape_along rest)) size whole some)

pub size_parts : (size count : ℕ) (z : ℤ) (rest zs : List ℤ) → zs ≡ z ∷ rest → size ≡ product (shape_along zs) → 0 < size → count ≡ unsigned_abs z → size ≡ count * (size / count)
size_parts size count z rest zs split e some count_is =
    e ∙ ap (λ ys. product (shape_along ys)) split ∙ ap (λ n. n * product (shape_along rest)) (sym count_is) ∙ ap (λ p. count * p) (sym (step_is size count z rest zs split e some count_is))

pub step_some : (size count : ℕ) → size ≡ count * (size / count) → 0 < size → 0 < size / count
step_some size count e some = factor_right count (size / count) size e some

pub step_fits : (start size count at step : ℕ) → size ≡ count * step → at < count → start + size ≤ 4194304 → start + at * step + step ≤ 4194304
step_fits start size count at step e h few =
    let next : at + 1 ≤ count = omega arith in
    omega (arith, e, few, mul-le-mul_left step next, mul_comm step count, mul_comm step (at + 1))

pub integers_all : (start size count k : ℕ) (z : ℤ) (rest zs : List ℤ) (out mid : List ℤ) → zs ≡ z ∷ rest → size ≡ product (shape_along zs) → 0 < size → count ≡ unsigned_abs z → k ≡ count →
    mid ≡ out ++ parts start z rest (size / count) k → mid ≡ out ++ integers_from start zs
integers_all start size count k z rest zs out mid split e some count_is ended before =
    let step : size / count ≡ product (shape_along rest) = step_is size count z rest zs split e some count_is in
    before ∙ ap (λ n. out ++ parts start z rest n k) step ∙ ap (λ n. out ++ parts start z rest (product (shape_along rest)) n) (ended ∙ count_is)
    ∙ ap (λ r. out ++ r) (sym (integers_parts start z rest) ∙ ap (integers_from start) (sym split))

-- a list by its first element and the rest
abbrev pub rest_of : {X : Type 0} → List X → List X
rest_of s = take (length s - 1) (drop 1 s)

pub at_first : {X : Type 0} (s : List X) (x : X) → 1 ≤ length s → x ≡ get_or s 0 x → s ≡ x ∷ rest_of s
at_first s x h is = drop_more s 0 x (omega arith) ∙ ap (λ y. y ∷ drop 1 s) (sym is) ∙ ap (λ r. x ∷ r) (sym (take_rest s 1))

lengths_along : (zs : List ℤ) → map (λ xs. length xs) (map places_along zs) ≡ shape_along zs
lengths_along [] = refl
lengths_along (z ∷ zs) = ap (λ n. n ∷ map (λ xs. length xs) (map places_along zs)) (length-map-range_with_len (turned z) 0 (unsigned_abs z)) ∙ ap (λ r. unsigned_abs z ∷ r) (lengths_along zs)

pub length-integers : (start : ℕ) (zs : List ℤ) → length (integers_from start zs) ≡ product (shape_along zs)
length-integers start zs =
    length-map (choices (map places_along zs)) (λ c. pos (start + place (shape_along zs) c)) ∙ length-choices (map places_along zs) ∙ ap product (lengths_along zs)

pub integers_nothing : (zs : List ℤ) (size : ℕ) → size ≡ product (shape_along zs) → size ≡ 0 → integers_from 0 zs ≡ []
integers_nothing zs size e none = nil_from_length (integers_from 0 zs) (length-integers 0 zs ∙ sym e ∙ none)

pub integers_many : (zs : List ℤ) → length (map number (integers_from 0 zs)) ≡ product (shape_along zs)
integers_many zs = length-map (integers_from 0 zs) number ∙ length-integers 0 zs

pub integers_beyond : (zs : List ℤ) (s : List ℕ) → s ≡ shape_along zs → 4194304 < product s → limited (integers_along zs) ≡ Err Limit
integers_beyond zs s e many = many_beyond (integers_along zs) (omega (arith, integers_many zs, ap product e))

-- one more number that a function of its place gives
pub placed_more : (f : ℕ → ℤ) (k : ℕ) (old new : List ℤ) (z : ℤ) → map number old ≡ map (λ j. number (f j)) (range_with_len 0 k) → z ≡ f k → new ≡ old ++ z ∷ [] →
    map number new ≡ map (λ j. number (f j)) (range_with_len 0 (k + 1))
placed_more f k old new z before e more =
    ap (map number) more ∙ map-append number old (z ∷ []) ∙ ap (λ r. r ++ number z ∷ []) before ∙ ap (λ w. map (λ j. number (f j)) (range_with_len 0 k) ++ number w ∷ []) e
    ∙ sym (map-range_with_len_more (λ j. number (f j)) 0 k k (omega arith))

-- a list whose rest is empty
pub only_first : {X Y : Type 0} (f : X → Y) (s : List X) (x : X) → 1 ≤ length s → x ≡ get_or s 0 x → length (rest_of s) ≡ 0 → map f s ≡ f x ∷ []
only_first f s x h is none = ap (map f) (at_first s x h is) ∙ ap (λ r. f x ∷ map f r) (nil_from_length (rest_of s) none)
