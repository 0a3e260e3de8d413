-- What the last digit leaves, and how long binary digits are.
use Rattle.std.proofs.Common.{◌≡◌, ◌<◌, ◌≤◌, ◌-◌, ◌^◌, max, ℕ, ℤ, pos, ◌-ℤ◌, ◌*ℤ◌, Bool, true, false, cond, refl, arith, lit<}
use Prim.Native.Nat.{zero, suc}
use Rattle.std.specs.Int.{w64, leading_zeros}
use Rattle.std.specs.Int.RustNames.{unsigned_abs}
use Rattle.std.specs.Int.Count.{leading_of_zero}
use Rattle.std.proofs.lemmas.Nat.{leading_top}
use Rattle.std.proofs.lemmas.Int.{ints}
use Rattle.std.proofs.lemmas.Bool.Decides.{Decides-int_eq}
use Rattle.j_kernels.specs.Scalars.{is_zero, residue, floor_quotient}
use Rattle.j_insert.specs.Digits.{left_by, binary_length}

left_cases : (b : Bool) (x r q : ℤ) → (b ≡ true → x ≡ pos 0) → (let digit : ℤ = cond b r (r -ℤ x *ℤ q) in r -ℤ digit) ≡ x *ℤ (let left : ℤ = cond b (pos 0) q in left)
left_cases true x r q h = let none : x ≡ pos 0 = h refl in rw none (omega (arith, ints))
left_cases false x r q h = omega (arith, ints)

-- r less its last digit is x times what is left
pub left_times : (x r : ℤ) → r -ℤ residue x r ≡ x *ℤ left_by x r
left_times x r = left_cases (is_zero x) x r (floor_quotient r x) (Decides-int_eq x (pos 0)).0

length_cases : (a d : ℕ) → a < 2 ^ 64 → d ≡ max 1 (64 - leading_zeros w64 a) → (a < 2 ^ d) × (1 < d → 2 ^ (d - 1) ≤ a)
length_cases zero d h e =
    let one : d ≡ 1 = omega (arith, e, leading_of_zero 64) in
    (rw one (lit< tt), λ more. absurd (omega arith))
length_cases (suc n) d h e =
    let top = leading_top 64 (suc n) (omega arith) h in
    let long : d ≡ suc top.0 = omega (arith, e, top.1) in
    let below : d - 1 ≡ top.0 = omega arith in
    (rw long top.3, λ more. rw below top.2)

-- the magnitude is below 2 to the power of its length, and not below that of a smaller one
pub length_is_least : (z : ℤ) → unsigned_abs z < 2 ^ 64 → (unsigned_abs z < 2 ^ binary_length z) × (1 < binary_length z → 2 ^ (binary_length z - 1) ≤ unsigned_abs z)
length_is_least z h = length_cases (unsigned_abs z) (binary_length z) h refl
