-- The greatest common divisor.
use Rattle.std.proofs.Common.{◌≡◌, ◌<◌, ◌≤◌, ◌%◌, ◌==◌, ℕ, Bool, true, false, ◌&&◌, cond, max, arith, refl, sym, ap, subst, ◌∙◌, inl, inr}
use Prim.Native.Nat.{zero, suc, ◌∣◌}
use Rattle.std.specs.Int.{IsGcd}
use Rattle.std.proofs.lemmas.Bool.{cases_lt, eqb-true, eq-eqb}
use Rattle.std.proofs.lemmas.Nat.Gcd.{dvd_of_mod-eq-zero, mod-eq-zero_of_dvd, le_of_dvd}
use Rattle.std.proofs.Math.Nat.{mod-zero}
use Rattle.j_kernels.specs.Scalars.{greatest}

-- the greatest number that passes
greatest_is : (p : ℕ → Bool) (n g : ℕ) → g ≤ n → p g ≡ true → ((d : ℕ) → g < d → d ≤ n → p d ≡ false) → greatest p n ≡ g
greatest_is p zero g le is none = omega arith
greatest_is p (suc n) g le is none = elim (cases_lt g (suc n)) [
  | inl below ↦ ap (λ b. cond b (suc n) (greatest p n)) (none (suc n) below (omega arith)) ∙ greatest_is p n g (omega arith) is (λ d a b. none d a (omega arith))
  | inr above ↦
      let e : suc n ≡ g = omega arith in
      let P : ℕ → Type 0 = λ m. p m ≡ true in
      ap (λ b. cond b (suc n) (greatest p n)) (subst P (sym e) is) ∙ e
]

pub zero_of : (m : ℕ) → 0 ∣ m → m ≡ 0
zero_of m h = sym (mod-zero m) ∙ mod-eq-zero_of_dvd 0 h

abbrev divides_both : ℕ → ℕ → ℕ → Bool
divides_both m n d = (m % d == 0) && (n % d == 0)

both_of : (a b : Bool) → a ≡ true → b ≡ true → (a && b) ≡ true
both_of a b ea eb = rw (ea, eb) refl

both_true : (a b : Bool) → (a && b) ≡ true → (a ≡ true) × (b ≡ true)
both_true true true h = (refl, refl)
both_true true false h = cc
both_true false b h = cc

not_true : (b : Bool) → (b ≡ true → ⊥) → b ≡ false
not_true true h = absurd (h refl)
not_true false h = refl

gcd_within : (m n g : ℕ) → IsGcd m n g → g ≤ max m n
gcd_within m n g w = elim (cases_lt 0 m) [
  | inl some ↦ omega (arith, le_of_dvd some w.0)
  | inr none ↦ elim (cases_lt 0 n) [
    | inl some ↦ omega (arith, le_of_dvd some w.1)
    | inr nothing ↦
        let em : m ≡ 0 = omega arith in
        let en : n ≡ 0 = omega arith in
        let z : g ≡ 0 = zero_of g (w.2 0 (dvd_of_mod-eq-zero 0 (mod-zero m ∙ em)) (dvd_of_mod-eq-zero 0 (mod-zero n ∙ en))) in omega arith
  ]
]

none_above : (m n g d : ℕ) → IsGcd m n g → g < d → d ≤ max m n → divides_both m n d ≡ true → ⊥
none_above m n g d w above within is =
    let parts = both_true (m % d == 0) (n % d == 0) is in
    let dg : d ∣ g = w.2 d (dvd_of_mod-eq-zero d (eqb-true (m % d) 0 parts.0)) (dvd_of_mod-eq-zero d (eqb-true (n % d) 0 parts.1)) in
    elim (cases_lt 0 g) [
      | inl some ↦ omega (arith, le_of_dvd some dg)
      | inr none ↦
          let z : g ≡ 0 = omega arith in
          let Q : ℕ → Type 0 = λ q. (q ∣ m) × (q ∣ n) in
          let both = subst Q z (w.0, w.1) in
          let em : m ≡ 0 = zero_of m both.0 in
          let en : n ≡ 0 = zero_of n both.1 in omega arith
    ]

pub divisor_is : (m n g : ℕ) → IsGcd m n g → greatest (divides_both m n) (max m n) ≡ g
divisor_is m n g w =
    greatest_is (divides_both m n) (max m n) g (gcd_within m n g w)
    (both_of (m % g == 0) (n % g == 0) (eq-eqb (m % g) 0 (mod-eq-zero_of_dvd g w.0)) (eq-eqb (n % g) 0 (mod-eq-zero_of_dvd g w.1)))
    (λ d a b. not_true (divides_both m n d) (none_above m n g d w a b))
