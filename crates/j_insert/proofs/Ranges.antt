-- Which numbers are in range.
use Rattle.std.proofs.Common.{◌≡◌, ◌<◌, ◌≤◌, ◌^◌, ℕ, ℤ, pos, negsuc, ◌-ℤ◌, true, false, nat_lt, FitsSigned, w64, arith, inl, inr}
use Rattle.std.specs.Int.{w128}
use Rattle.std.specs.Int.RustNames.{unsigned_abs}
use Rattle.std.proofs.lemmas.Bool.{cases_lt}
use Rattle.std.proofs.lemmas.Int.{ints}
use Rattle.j_definitions.specs.Range.{in_range}

pub fitting : (z : ℤ) → FitsSigned w64 z → in_range z ≡ true
fitting (pos n) f = let h : n < 2 ^ 63 = omega (arith, f.sfits) in grind (arith, h)
fitting (negsuc n) f = let h : n < 2 ^ 63 = omega (arith, f.sfits) in grind (arith, h)

not_below : (n : ℕ) → (n < 2 ^ 63 → ⊥) → nat_lt n (2 ^ 63) ≡ false
not_below n f = elim (cases_lt n (2 ^ 63)) [
  | inl h ↦ absurd (f h)
  | inr h ↦ grind (arith, h)
]

pub not_fitting : (z : ℤ) → (FitsSigned w64 z → ⊥) → in_range z ≡ false
not_fitting (pos n) f = not_below n (λ h. f (record { sfits = h }))
not_fitting (negsuc n) f = not_below n (λ h. f (record { sfits = h }))

-- magnitudes
pub abs_within : (z : ℤ) → FitsSigned w64 z → unsigned_abs z ≤ 2 ^ 63
abs_within (pos n) f = omega (arith, f.sfits)
abs_within (negsuc n) f = omega (arith, f.sfits)

-- a difference of a number within 2^63 and one within 2^126
pub sub_fits : (r p : ℤ) → unsigned_abs r ≤ 2 ^ 63 → unsigned_abs p ≤ 2 ^ 126 → FitsSigned w128 (r -ℤ p)
sub_fits (pos m) (pos n) h g = omega (arith, ints)
sub_fits (pos m) (negsuc n) h g = omega (arith, ints)
sub_fits (negsuc m) (pos n) h g = omega (arith, ints)
sub_fits (negsuc m) (negsuc n) h g = omega (arith, ints)
