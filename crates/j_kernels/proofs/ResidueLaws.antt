-- What is left of a number after all multiples of another.
use Rattle.std.proofs.Common.{◌≡◌, ◌≢◌, ◌<◌, ◌+◌, ◌-◌, ◌*◌, ◌/◌, ◌%◌, ℕ, ℤ, pos, negsuc, neg_ℤ, ◌+ℤ◌, ◌-ℤ◌, ◌<ℤ◌, arith, sym, ap, ◌∙◌, ◌⊎◌, inl, inr}
use Prim.Native.Nat.{zero, suc}
use Rattle.std.specs.Int.{int_rem_euclid}
use Rattle.std.proofs.lemmas.Bool.{cases_lt}
use Rattle.std.proofs.lemmas.Int.{ints}
use Rattle.std.proofs.lemmas.Nat.{mod-mul-add}
use Rattle.std.proofs.Math.Nat.{mul-suc}
use Rattle.j_kernels.specs.Scalars.{residue}

-- one more
suc_mod : (k n : ℕ) → ((k % suc n ≡ n) × (suc k % suc n ≡ 0)) ⊎ ((k % suc n < n) × (suc k % suc n ≡ suc (k % suc n)))
suc_mod k n = elim (cases_lt (k % suc n) n) [
  | inl below ↦
      let e : suc k ≡ k / suc n * suc n + suc (k % suc n) = omega arith in
      inr (below, ap (λ j. j % suc n) e ∙ mod-mul-add (k / suc n) (suc n) (suc (k % suc n)) (omega arith))
  | inr above ↦
      let last : k % suc n ≡ n = omega arith in
      let e : suc k ≡ suc (k / suc n) * suc n + 0 = omega arith in
      inl (last, ap (λ j. j % suc n) e ∙ mod-mul-add (suc (k / suc n)) (suc n) 0 (omega arith))
]

-- quotient q and rest r
after_above : (k n q r : ℕ) → k ≡ suc n * q + r → pos (suc k) -ℤ pos (suc n * suc q) ≡ pos (suc r) -ℤ pos (suc n)
after_above k n q r e = let f : suc n * suc q ≡ suc n * q + suc n = mul-suc (suc n) q in rw f (omega (arith, ints))

after_below : (a n q r : ℕ) → suc a ≡ suc n * q + r → negsuc a -ℤ neg_ℤ (pos (suc n * q)) ≡ neg_ℤ (pos r)
after_below a n q r e = omega (arith, ints)

-- the rest e of a division by suc n, and the residue z
abbrev IsLeft : ℕ → ℤ → ℤ → Type 0
IsLeft n z e = ((e ≡ pos 0) → z ≡ pos 0) × ((e ≢ pos 0) → z ≡ e +ℤ negsuc n)

left_above : (k n r : ℕ) (z e : ℤ) → z ≡ pos (suc r) -ℤ pos (suc n) → e ≡ pos (suc k % suc n) → ((r ≡ n) × (suc k % suc n ≡ 0)) ⊎ ((r < n) × (suc k % suc n ≡ suc r)) → IsLeft n z e
left_above k n r z e ez ee (inl h) = let last : r ≡ n = h.0 in (λ _. ez ∙ omega (arith, ints), λ ne. absurd (ne (ee ∙ ap pos h.1)))
left_above k n r z e ez ee (inr h) =
    let below : r < n = h.0 in
    let is : e ≡ pos (suc r) = ee ∙ ap pos h.1 in
    (λ none. let no : pos (suc r) ≡ pos 0 = sym is ∙ none in cc, λ _. ez ∙ (rw is (omega (arith, ints))))

left_below : (a n r : ℕ) (z e : ℤ) → z ≡ neg_ℤ (pos (suc a % suc n)) → e ≡ pos (n - r) → ((r ≡ n) × (suc a % suc n ≡ 0)) ⊎ ((r < n) × (suc a % suc n ≡ suc r)) → IsLeft n z e
left_below a n r z e ez ee (inl h) =
    let last : r ≡ n = h.0 in
    let none : n - r ≡ 0 = omega arith in
    (λ _. ez ∙ ap (λ m. neg_ℤ (pos m)) h.1, λ ne. absurd (ne (ee ∙ ap pos none)))
left_below a n r z e ez ee (inr h) =
    let below : r < n = h.0 in (
      λ none. let no : pos (n - r) ≡ pos 0 = sym ee ∙ none in let zero_less : n - r ≡ 0 = cc in absurd (omega arith),
      λ _. ez ∙ ap (λ m. neg_ℤ (pos m)) h.1 ∙ (rw ee (omega (arith, ints))),
    )

pub residue_below : (n : ℕ) (y e : ℤ) → e ≡ int_rem_euclid y (negsuc n) → IsLeft n (residue (negsuc n) y) e
residue_below n (pos zero) e h =
    let q : 0 / suc n ≡ 0 = omega arith in
    let r : 0 % suc n ≡ 0 = omega arith in
    (λ _. rw q (omega (arith, ints)), λ ne. absurd (ne (h ∙ ap pos r)))
residue_below n (pos (suc k)) e h = left_above k n (k % suc n) (residue (negsuc n) (pos (suc k))) e (after_above k n (k / suc n) (k % suc n) (omega arith)) h (suc_mod k n)
residue_below n (negsuc a) e h = left_below a n (a % suc n) (residue (negsuc n) (negsuc a)) e (after_below a n (suc a / suc n) (suc a % suc n) (omega arith)) (h ∙ ap pos (omega arith)) (suc_mod a n)

-- as the code has them
pub left_over : (x y e : ℤ) → x <ℤ pos 0 → e ≡ int_rem_euclid y x → ((e ≡ pos 0) → residue x y ≡ pos 0) × ((e ≢ pos 0) → residue x y ≡ e +ℤ x)
left_over (pos n) y e h is = absurd (omega (arith, ints))
left_over (negsuc n) y e h is = residue_below n y e is
