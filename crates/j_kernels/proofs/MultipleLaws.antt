-- Least common multiples.
use Rattle.std.proofs.Common.{◌≡◌, ◌<◌, ◌≤◌, ◌*◌, ◌/◌, ◌^◌, ℕ, ℤ, pos, negsuc, neg_ℤ, ◌*ℤ◌, refl, sym, ap, ◌∙◌, arith, Bool, false, ◌||◌, cond, Err, FitsSigned, w64, of_z}
use Prim.Native.Nat.{zero, suc, ◌∣◌}
use Rattle.std.specs.Int.RustNames.{int_div, unsigned_abs}
use Rattle.std.proofs.Math.Nat.{mul_comm, one-dvd, div-one, one-mul, mul-div_assoc, zero-div, zero-mul}
use Rattle.std.proofs.lemmas.Nat.Gcd.{le_of_dvd}
use Rattle.std.proofs.lemmas.Int.{ints}
use Rattle.j_definitions.specs.declared.Fault.TheVariants.{Overflow}
use Rattle.j_kernels.specs.Scalars.{whole, is_zero, common_divisor, common_multiple, dyad_of}
use Rattle.j_definitions.specs.Array.{number}
use Rattle.j_kernels.specs.declared.scalar.Scalar.TheVariants.{And}
use Rattle.j_kernels.proofs.Gcd.{zero_of, divisor_is}

part_times : (a b d : ℕ) → d ∣ a → a * b / d ≡ a / d * b
part_times a b d h = ap (λ n. n / d) (mul_comm a b) ∙ mul-div_assoc d b h ∙ mul_comm b (a / d)

div_minus : (n d : ℕ) → int_div (neg_ℤ (pos n)) (pos d) ≡ neg_ℤ (pos (n / d))
div_minus zero d = rw (zero-div d) refl
div_minus (suc n) d = refl

minus_times : (n b : ℕ) → neg_ℤ (pos n) *ℤ pos b ≡ neg_ℤ (pos (n * b))
minus_times zero b = ap pos (zero-mul b) ∙ sym (ap (λ n. neg_ℤ (pos n)) (zero-mul b))
minus_times (suc n) b = refl

minus_times_minus : (n b : ℕ) → neg_ℤ (pos n) *ℤ negsuc b ≡ pos (n * suc b)
minus_times_minus zero b = ap (λ n. neg_ℤ (pos n)) (zero-mul (suc b)) ∙ sym (ap pos (zero-mul (suc b)))
minus_times_minus (suc n) b = refl

-- the part of x that y is multiplied by
pub part_of_product : (x y : ℤ) (d : ℕ) → d ∣ unsigned_abs x → int_div (x *ℤ y) (pos d) ≡ int_div x (pos d) *ℤ y
part_of_product (pos a) (pos b) d h = ap pos (part_times a b d h)
part_of_product (pos a) (negsuc b) d h = div_minus (a * suc b) d ∙ ap (λ n. neg_ℤ (pos n)) (part_times a (suc b) d h)
part_of_product (negsuc a) (pos b) d h = div_minus (suc a * b) d ∙ ap (λ n. neg_ℤ (pos n)) (part_times (suc a) b d h) ∙ sym (minus_times (suc a / d) b)
part_of_product (negsuc a) (negsuc b) d h = ap pos (part_times (suc a) (suc b) d h) ∙ sym (minus_times_minus (suc a / d) b)

-- numbers that are not 0
pub not_zero : (x : ℤ) → (of_z w64 x ≡ 0 → ⊥) → is_zero x ≡ false
not_zero (pos zero) h = absurd (h refl)
not_zero (pos (suc n)) h = grind (arith, ints)
not_zero (negsuc n) h = refl

pub some_size : (x : ℤ) → is_zero x ≡ false → 0 < unsigned_abs x
some_size (pos zero) h = cc
some_size (pos (suc n)) h = omega arith
some_size (negsuc n) h = omega arith

pub some_divisor : (d m : ℕ) → d ∣ m → 0 < m → 0 < d
some_divisor zero m h some = let none : m ≡ 0 = zero_of m h in omega arith
some_divisor (suc d) m h some = omega arith

neither : (a b : Bool) → a ≡ false → b ≡ false → (a || b) ≡ false
neither a b h g = rw (h, g) refl

-- d is the greatest common divisor
multiple_is : (x y : ℤ) (d : ℕ) → is_zero x ≡ false → is_zero y ≡ false → d ≡ common_divisor (unsigned_abs x) (unsigned_abs y) →
    common_multiple x y ≡ int_div (x *ℤ y) (pos d)
multiple_is x y d h g e =
    ap (λ b. cond b (pos 0) (int_div (x *ℤ y) (pos (common_divisor (unsigned_abs x) (unsigned_abs y))))) (neither (is_zero x) (is_zero y) h g)
    ∙ ap (λ n. int_div (x *ℤ y) (pos n)) (sym e)

pub multiple_by_part : (x y : ℤ) (d : ℕ) → is_zero x ≡ false → is_zero y ≡ false → d ≡ common_divisor (unsigned_abs x) (unsigned_abs y) → d ∣ unsigned_abs x →
    whole (common_multiple x y) ≡ whole (int_div x (pos d) *ℤ y)
multiple_by_part x y d h g e divides = ap whole (multiple_is x y d h g e ∙ part_of_product x y d divides)

-- a divisor that is out of range
is_least : (x : ℤ) (d : ℕ) → FitsSigned w64 x → is_zero x ≡ false → d ∣ unsigned_abs x → 2 ^ 63 ≤ d → x ≡ negsuc 9223372036854775807
is_least (pos n) d f h divides large = let le = le_of_dvd (some_size (pos n) h) divides in absurd (omega (arith, f.sfits))
is_least (negsuc n) d f h divides large = let le = le_of_dvd (some_size (negsuc n) h) divides in ap negsuc (omega (arith, f.sfits))

pub multiple_beyond : (x y : ℤ) (d : ℕ) → FitsSigned w64 x → FitsSigned w64 y → is_zero x ≡ false → is_zero y ≡ false → d ≡ common_divisor (unsigned_abs x) (unsigned_abs y) →
    d ∣ unsigned_abs x → d ∣ unsigned_abs y → 2 ^ 63 ≤ d → whole (common_multiple x y) ≡ Err Overflow
multiple_beyond x y d fx fy h g e dx dy large =
    let le = le_of_dvd (some_size x h) dx in
    let ex : x ≡ negsuc 9223372036854775807 = is_least x d fx h dx large in
    let ey : y ≡ negsuc 9223372036854775807 = is_least y d fy g dy large in
    let ed : d ≡ 9223372036854775808 = omega (arith, ints, fx.sfits) in ap whole (multiple_is x y d h g e) ∙ rw (ex, ey, ed) refl

-- with 1 or _1, where the divisor can't be searched for
one_divisor : (n : ℕ) → common_divisor 1 n ≡ 1
one_divisor n = divisor_is 1 n 1 (one-dvd 1, one-dvd n, λ d p q. p)

one_part : (n : ℕ) → 1 * n / 1 ≡ n
one_part n = div-one (1 * n) ∙ one-mul n

pub multiple_of_minus_one : (n : ℕ) → dyad_of And (number (negsuc 0)) (number (negsuc n)) ≡ whole (pos (suc n))
multiple_of_minus_one n = ap whole (multiple_is (negsuc 0) (negsuc n) 1 refl refl (sym (one_divisor (suc n)))) ∙ ap (λ k. whole (pos k)) (one_part (suc n))

pub multiple_of_one : (n : ℕ) → dyad_of And (number (pos 1)) (number (negsuc n)) ≡ whole (negsuc n)
multiple_of_one n =
    ap whole (multiple_is (pos 1) (negsuc n) 1 refl refl (sym (one_divisor (suc n))) ∙ div_minus (1 * suc n) 1) ∙ ap (λ k. whole (neg_ℤ (pos k))) (one_part (suc n))
