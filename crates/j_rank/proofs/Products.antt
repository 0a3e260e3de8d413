-- Products of axes.
use Rattle.std.proofs.Common.{◌≡◌, ◌<◌, ◌≤◌, ◌+◌, ◌*◌, ◌/◌, ℕ, List, [], ◌∷◌, ◌++◌, length, take, drop, arith, refl, sym, ap, ◌∙◌, Bool, true, false, ◌||◌, nat_eq, get_or, mul_assoc, ◌⊎◌, inl, inr}
use Prim.Native.Nat.{zero, suc}
use Rattle.std.specs.List.{list_any}
use Rattle.std.proofs.lemmas.Bool.{eqb-true}
use Rattle.std.proofs.lemmas.List.{drop_more, drop_all, take-append-drop}
use Rattle.std.proofs.lemmas.Nat.{div_below}
use Rattle.std.proofs.Math.Nat.{mul-le-mul_left}
use Rattle.j_definitions.specs.Array.{product}

abbrev pub is_zero : ℕ → Bool
is_zero n = nat_eq n 0

or_cases : (a b : Bool) → (a || b) ≡ true → (a ≡ true) ⊎ (b ≡ true)
or_cases true b h = inl refl
or_cases false b h = inr h

or_none : (a b : Bool) → (a || b) ≡ false → (a ≡ false) × (b ≡ false)
or_none true b h = cc
or_none false b h = (refl, h)

not_zero : (n : ℕ) → is_zero n ≡ false → 0 < n
not_zero zero h = cc
not_zero (suc n) h = omega arith

-- a product with a 0, and one without
pub product_zero : (s : List ℕ) → list_any is_zero s ≡ true → product s ≡ 0
product_zero [] h = cc
product_zero (n ∷ s) h = elim (or_cases (is_zero n) (list_any is_zero s) h) [
  | inl here ↦ omega (arith, ap (λ m. m * product s) (eqb-true n 0 here))
  | inr later ↦ omega (arith, ap (λ p. n * p) (product_zero s later))
]

positive : (m n : ℕ) → 0 < m → 0 < n → 0 < m * n
positive m n h g = omega (arith, mul-le-mul_left m g)

pub product_some : (s : List ℕ) → list_any is_zero s ≡ false → 0 < product s
product_some [] h = omega arith
product_some (n ∷ s) h =
    let both = or_none (is_zero n) (list_any is_zero s) h in
    positive n (product s) (not_zero n both.0) (product_some s both.1)

none_left : (s : List ℕ) (i : ℕ) → list_any is_zero s ≡ false → list_any is_zero (drop i s) ≡ false
none_left s zero h = h
none_left [] (suc i) h = refl
none_left (n ∷ s) (suc i) h = let both = or_none (is_zero n) (list_any is_zero s) h in none_left s i both.1

-- a product so far, with what is left
pub product_more : (s : List ℕ) (i size : ℕ) → i < length s → size * product (drop i s) ≡ product s → (size * get_or s i 0) * product (drop (i + 1) s) ≡ product s
product_more s i size h e =
    mul_assoc size (get_or s i 0) (product (drop (i + 1) s)) ∙ ap (λ t. size * product t) (sym (drop_more s i 0 h)) ∙ e

pub product_ended : (s : List ℕ) (i size : ℕ) → length s ≤ i → size * product (drop i s) ≡ product s → size ≡ product s
product_ended s i size h e = omega (arith, e, ap (λ t. size * product t) (drop_all i s h))

pub product_beyond : (s : List ℕ) (i size limit : ℕ) → i < length s → list_any is_zero s ≡ false → size * product (drop i s) ≡ product s → limit < size * get_or s i 0 → limit < product s
product_beyond s i size limit h none e more =
    let some = product_some (drop (i + 1) s) (none_left s (i + 1) none) in
    let step = product_more s i size h e in
    omega (arith, step, mul-le-mul_left (size * get_or s i 0) some)

-- a product in two parts
pub product_append : (s t : List ℕ) → product (s ++ t) ≡ product s * product t
product_append [] t = omega arith
product_append (n ∷ s) t = ap (λ p. n * p) (product_append s t) ∙ sym (mul_assoc n (product s) (product t))

pub product_parts : (s : List ℕ) (n : ℕ) → product (take n s) * product (drop n s) ≡ product s
product_parts s n = sym (product_append (take n s) (drop n s)) ∙ ap product (take-append-drop n s)

factor_within : (p q n limit : ℕ) → p * q ≡ n → 0 < n → n ≤ limit → q ≤ limit
factor_within zero q n limit e some h = absurd (omega arith)
factor_within (suc p) q n limit e some h = omega arith

factor_some : (p q n : ℕ) → p * q ≡ n → 0 < n → 0 < q
factor_some p zero n e some = absurd (omega arith)
factor_some p (suc q) n e some = omega arith

-- the rest of the axes of a product within a limit
pub rest_within : (s : List ℕ) (n limit : ℕ) → 0 < product s → product s ≤ limit → product (drop n s) ≤ limit
rest_within s n limit some h = factor_within (product (take n s)) (product (drop n s)) (product s) limit (product_parts s n) some h

pub rest_some : (s : List ℕ) (n : ℕ) → 0 < product s → 0 < product (drop n s)
rest_some s n some = factor_some (product (take n s)) (product (drop n s)) (product s) (product_parts s n) some

-- pair k has a cell of that number
pub place_of : (f s : List ℕ) (n k times : ℕ) → k < product f → times ≡ product (drop n f) → take n s ≡ take n f → k / times < product (take n s)
place_of f s n k times h e same =
    let some = rest_some f n (omega arith) in
    let within : k < product (take n s) * times = omega (arith, h, product_parts f n, ap (λ p. product (take n f) * p) e, ap (λ t. product t * times) same) in
    div_below k times (product (take n s)) (omega arith) (omega arith)
