-- Quotients that are rounded down.
use Rattle.std.proofs.Common.{◌≡◌, ◌≢◌, true, false, cond, Bool, lit<, FitsSigned, w64, to_z, of_z, ◌<◌, ◌≤◌, ◌^◌, ℕ, ℤ, pos, negsuc, ◌-ℤ◌, ◌*ℤ◌, arith, refl, sym, ap, ◌∙◌}
use Prim.Native.Nat.{zero, suc}
use Rattle.std.specs.Int.{w128}
use Rattle.std.specs.Int.RustNames.{unsigned_abs}
use Rattle.std.proofs.Math.Nat.{div-le_self}
use Rattle.std.proofs.lemmas.Nat.{mul-le}
use Rattle.std.proofs.lemmas.Bool.Decides.{Decides-int_eq}
use Rattle.std.proofs.lemmas.Int.{unsigned_abs-mul, to_z-of_z, fits_signed_mul}
use Rattle.j_kernels.specs.Scalars.{is_zero, floor_quotient, residue}
use Rattle.j_insert.proofs.Ranges.{abs_within, sub_fits}

false_from : (b : Bool) → (b ≡ true → ⊥) → b ≡ false
false_from true h = absurd (h refl)
false_from false h = refl

not_zero : (x : ℤ) → x ≢ pos 0 → is_zero x ≡ false
not_zero x h = false_from (is_zero x) (λ e. h ((Decides-int_eq x (pos 0)).0 e))

-- no quotient is greater in magnitude
pub quotient_bound : (r x : ℤ) (b : ℕ) → unsigned_abs r ≤ b → unsigned_abs (floor_quotient r x) ≤ b
quotient_bound (pos a) (pos n) b h = omega (arith, div-le_self a n)
quotient_bound (negsuc a) (pos n) b h = omega (arith, div-le_self a n)
quotient_bound (pos zero) (negsuc n) b h = omega (arith, div-le_self 0 (suc n))
quotient_bound (pos (suc a)) (negsuc n) b h = omega (arith, div-le_self a (suc n))
quotient_bound (negsuc a) (negsuc n) b h = omega (arith, div-le_self (suc a) (suc n))

product_bound : (x q : ℤ) → unsigned_abs x ≤ 2 ^ 63 → unsigned_abs q ≤ 2 ^ 63 → unsigned_abs (x *ℤ q) ≤ 2 ^ 126
product_bound x q h g = rw (unsigned_abs-mul x q) (mul-le (unsigned_abs x) (unsigned_abs q) (2 ^ 63) (2 ^ 63) h g)

wider : (x : ℤ) → FitsSigned w64 x → FitsSigned w128 x
wider (pos n) f = let h : n < 2 ^ 63 = f.sfits in record { sfits = omega arith }
wider (negsuc n) f = let h : n < 2 ^ 63 = f.sfits in record { sfits = omega arith }

-- the last digit as the code computes it
pub digit_is : (r x f q : ℤ) → x ≢ pos 0 → FitsSigned w64 x → f ≡ x → q ≡ floor_quotient r x → FitsSigned w128 r → FitsSigned w128 q → unsigned_abs r ≤ 2 ^ 63 →
    to_z w128 (of_z w128 (to_z w128 (of_z w128 r) -ℤ to_z w128 (of_z w128 (to_z w128 (of_z w128 f) *ℤ to_z w128 (of_z w128 q))))) ≡ residue x r
digit_is r x f q nz fx ef eq fr fq h =
    let hq : unsigned_abs q ≤ 2 ^ 63 = rw eq (quotient_bound r x (2 ^ 63) h) in
    let fp : FitsSigned w128 (x *ℤ q) = fits_signed_mul w128 x q (2 ^ 63) (2 ^ 63) (abs_within x fx) hq (lit< tt) in
    let fd : FitsSigned w128 (r -ℤ x *ℤ q) = sub_fits r (x *ℤ q) h (product_bound x q (abs_within x fx) hq) in
    let last : r -ℤ x *ℤ q ≡ residue x r = ap (λ (w : ℤ). r -ℤ x *ℤ w) eq ∙ sym (ap (λ (b : Bool). cond b r (r -ℤ x *ℤ floor_quotient r x)) (not_zero x nz)) in
    rw (ef, to_z-of_z w128 r fr, to_z-of_z w128 x (wider x fx), to_z-of_z w128 q fq, to_z-of_z w128 (x *ℤ q) fp, to_z-of_z w128 (r -ℤ x *ℤ q) fd) last
