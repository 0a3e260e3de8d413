-- Results that were checked to fit.
use Rattle.std.proofs.Common.{◌≡◌, ◌<◌, ◌^◌, ℤ, pos, negsuc, true, false, cond, nat_lt, FitsSigned, w64, Option, Some, None, Result, Ok, Err, SomeIff, ok_or, arith, sym, ap, ◌∙◌, inl, inr, ℕ}
use Rattle.std.proofs.lemmas.Bool.{cases_lt}
use Rattle.j_definitions.specs.Array.{Atom, number}
use Rattle.j_definitions.specs.Range.{in_range}
use Rattle.j_definitions.specs.declared.Fault.{Fault}
use Rattle.j_definitions.specs.declared.Fault.TheVariants.{Overflow}
use Rattle.j_kernels.specs.Scalars.{whole}
use Rattle.j_kernels.specs.Answers.{number_or_fault}

fitting : (z : ℤ) → FitsSigned w64 z → in_range z ≡ true
fitting (pos n) f = let h : n < 2 ^ 63 = omega (arith, f.sfits) in grind (arith, h)
fitting (negsuc n) f = let h : n < 2 ^ 63 = omega (arith, f.sfits) in grind (arith, h)

not_below : (n : ℕ) → (n < 2 ^ 63 → ⊥) → nat_lt n (2 ^ 63) ≡ false
not_below n f = elim (cases_lt n (2 ^ 63)) [
  | inl h ↦ absurd (f h)
  | inr h ↦ grind (arith, h)
]

not_fitting : (z : ℤ) → (FitsSigned w64 z → ⊥) → in_range z ≡ false
not_fitting (pos n) f = not_below n (λ h. f (record { sfits = h }))
not_fitting (negsuc n) f = not_below n (λ h. f (record { sfits = h }))

pub whole_checked : (z : ℤ) (r : Option ℤ) (s : Result ℤ Fault) → SomeIff r (FitsSigned w64 z) z → s ≡ ok_or r Overflow → whole z ≡ number_or_fault s
whole_checked z None s h e = rw e (ap (λ b. let r : Result Atom Fault = cond b (Ok (number z)) (Err Overflow) in r) (not_fitting z h))
whole_checked z (Some v) s h e = rw e (ap (λ b. let r : Result Atom Fault = cond b (Ok (number z)) (Err Overflow) in r) (fitting z h.0) ∙ ap (λ u. Ok (number u)) (sym h.1))
