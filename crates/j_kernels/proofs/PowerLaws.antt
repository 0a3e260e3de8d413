-- Powers with long exponents.
use Rattle.std.specs.Prelude.{◌≡◌, ◌%◌, ◌+◌, ◌^◌, ◌<◌, ◌≤◌, ◌==◌, ℕ, ℤ, Bool, zero, suc, pos, negsuc, neg_ℤ, true, false, cond, nat_lt, unsigned_abs, int_lt, ◌&&◌, not, Option, Result, Err, SomeIff, FitsSigned}
use Rattle.std.specs.Int.{int_pow}
use Rattle.std.proofs.Common.{refl, ap, ap₂, sym, ◌∙◌, arith, inl, inr, le_trans, pow_mono, pow-suc, mul-zero, w64, ok_or}
use Rattle.std.proofs.lemmas.Bool.{cases_lt}
use Rattle.std.proofs.Math.Nat.{mul-one, pow-le-pow_left}
use Rattle.j_kernels.specs.Scalars.{whole, is_unit, power}
use Rattle.j_kernels.specs.Answers.{number_or_fault}
use Rattle.j_kernels.proofs.Checked.{whole_checked}
use Rattle.j_definitions.specs.Array.{Atom}
use Rattle.j_definitions.specs.declared.Fault.{Fault}
use Rattle.j_definitions.specs.declared.Fault.TheVariants.{Overflow, Quotient}

zero-pow : (e : ℕ) → 0 < e → 0 ^ e ≡ 0
zero-pow zero h = absurd (omega arith)
zero-pow (suc e) h = pow-suc 0 e ∙ mul-zero (0 ^ e)

one-pow : (e : ℕ) → 1 ^ e ≡ 1
one-pow zero = refl
one-pow (suc e) = pow-suc 1 e ∙ mul-one (1 ^ e) ∙ one-pow e

past : (n e : ℕ) → 64 ≤ e → 2 ^ 64 ≤ suc (suc n) ^ e
past n e h = let two : 2 ≤ suc (suc n) = omega arith in le_trans (pow_mono h) (pow-le-pow_left two e)

-- a number that is too large, with either sign
beyond_above : (m : ℕ) → 2 ^ 64 ≤ m → whole (pos m) ≡ Err Overflow
beyond_above m h = grind arith

beyond_below : (m : ℕ) → 2 ^ 64 ≤ m → whole (neg_ℤ (pos m)) ≡ Err Overflow
beyond_below zero h = absurd (omega arith)
beyond_below (suc m) h = grind arith

beyond : (b : Bool) (m : ℕ) → 2 ^ 64 ≤ m → whole (cond b (pos m) (neg_ℤ (pos m))) ≡ Err Overflow
beyond true m h = beyond_above m h
beyond false m h = beyond_below m h

-- a power of 0, 1 or -1 turns on whether the exponent is even, and any other is too large
same_power : (z : ℤ) (e k : ℕ) → 64 ≤ e → 64 ≤ k → e % 2 ≡ k % 2 → whole (int_pow z e) ≡ whole (int_pow z k)
same_power (pos zero) e k g h p = ap (λ m. whole (pos m)) (zero-pow e (omega arith) ∙ sym (zero-pow k (omega arith)))
same_power (pos (suc zero)) e k g h p = ap (λ m. whole (pos m)) (one-pow e ∙ sym (one-pow k))
same_power (pos (suc (suc n))) e k g h p = beyond_above (suc (suc n) ^ e) (past n e g) ∙ sym (beyond_above (suc (suc n) ^ k) (past n k h))
same_power (negsuc zero) e k g h p = ap₂ (λ (r m : ℕ). whole (cond (r == 0) (pos m) (neg_ℤ (pos m)))) p (one-pow e ∙ sym (one-pow k))
same_power (negsuc (suc n)) e k g h p = beyond (e % 2 == 0) (suc (suc n) ^ e) (past n e g) ∙ sym (beyond (k % 2 == 0) (suc (suc n) ^ k) (past n k h))

-- the exponent as the code takes it
pub short_power : (z : ℤ) (n k : ℕ) → k ≡ cond (nat_lt n 64) n (64 + n % 2) → whole (int_pow z n) ≡ whole (int_pow z k)
short_power z n k e = elim (cases_lt n 64) [
  | inl below ↦ ap (λ j. whole (int_pow z j)) (grind arith)
  | inr above ↦ let long : k ≡ 64 + n % 2 = grind arith in same_power z n k above (omega arith) (omega arith)
]

-- as the code has it, with the exponent n
pub power_checked : (x y : ℤ) (n k : ℕ) (r : Option ℤ) (s : Result ℤ Fault) → (int_lt y (pos 0) && not (is_unit x)) ≡ false → n ≡ unsigned_abs y → k ≡ cond (nat_lt n 64) n (64 + n % 2) →
    SomeIff r (FitsSigned w64 (int_pow x k)) (int_pow x k) → s ≡ ok_or r Overflow → power x y ≡ number_or_fault s
power_checked x y n k r s h en ek is e =
    ap (λ b. let p : Result Atom Fault = cond b (Err Quotient) (whole (int_pow x (unsigned_abs y))) in p) h ∙ ap (λ m. whole (int_pow x m)) (sym en)
    ∙ short_power x n k ek ∙ whole_checked (int_pow x k) r s is e
