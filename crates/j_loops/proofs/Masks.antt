-- Sign masks.
use Rattle.std.proofs.Common.{◌≡◌, ◌<◌, ◌≤◌, ◌+◌, ◌-◌, ◌%◌, ◌/◌, ◌^◌, ℕ, ℤ, pos, negsuc, ◌+ℤ◌, ◌-ℤ◌, min, Bool, true, false, refl, sym, ◌∙◌, w64, to_z, of_z, FitsSigned, nat_lt, nat_eq, int_lt, arith}
use Prim.Native.Nat.{suc}
use Rattle.std.specs.Int.RustNames.{bit_and, bit_xor}
use Rattle.std.specs.Int.Bits.{and_lt}
use Rattle.std.proofs.lemmas.Nat.{xor_lt}
use Rattle.std.proofs.lemmas.Bool.{ltb-true, ltb-false}
use Rattle.std.proofs.lemmas.Int.{ints, int_wrap_fits, wrapping_add-bits, wrapping_sub-bits, to_z-of_z}
use Rattle.std.proofs.lemmas.Nat.Bits.{bit_at_and, bit_at_xor, bit_at_above}

-- the top bits of p and q, or those of r and s, are equal
abbrev Tops : ℕ → ℕ → ℕ → ℕ → Type 0
Tops p q r s = min ((p / 2 ^ 63 % 2 + q / 2 ^ 63 % 2) % 2) ((r / 2 ^ 63 % 2 + s / 2 ^ 63 % 2) % 2) ≡ 0

top_bits : (p q r s : ℕ) → bit_and (bit_xor p q) (bit_xor r s) < 2 ^ 63 → Tops p q r s
top_bits p q r s h =
    let both = bit_at_and (bit_xor p q) (bit_xor r s) 63 in
    let none = bit_at_above (bit_and (bit_xor p q) (bit_xor r s)) 63 63 h (omega arith) in
    rw (← bit_at_xor p q 63, ← bit_at_xor r s 63) (sym both ∙ none)

of_z-lt : (x : ℤ) → FitsSigned w64 x → of_z w64 x < 2 ^ 64
of_z-lt x f = omega (arith, ints)

-- sums
both_pos : (m n : ℕ) → m < 2 ^ 63 → n < 2 ^ 63 → Tops m ((m + n) % 2 ^ 64) n ((m + n) % 2 ^ 64) → m + n < 2 ^ 63
both_pos m n a b h = omega arith

both_neg : (m n t : ℕ) → m < 2 ^ 63 → n < 2 ^ 63 → t ≡ (2 ^ 64 - suc m + (2 ^ 64 - suc n)) % 2 ^ 64 → Tops (2 ^ 64 - suc m) t (2 ^ 64 - suc n) t → m + n + 1 < 2 ^ 63
both_neg m n t a b e h = omega arith

mixed_sum : (m n : ℕ) → m < 2 ^ 63 → n < 2 ^ 63 → FitsSigned w64 (pos m +ℤ negsuc n)
mixed_sum m n a b = omega (arith, ints)

sum_fits : (x y : ℤ) (t : ℕ) → FitsSigned w64 x → FitsSigned w64 y → t ≡ (of_z w64 x + of_z w64 y) % 2 ^ 64 → Tops (of_z w64 x) t (of_z w64 y) t → FitsSigned w64 (x +ℤ y)
sum_fits (pos m) (pos n) t fx fy e h = let less : m + n < 2 ^ 63 = both_pos m n (omega arith) (omega arith) (rw (← e) h) in record { sfits = omega arith }
sum_fits (negsuc m) (negsuc n) t fx fy e h = let less : m + n + 1 < 2 ^ 63 = both_neg m n t (omega arith) (omega arith) e h in record { sfits = omega arith }
sum_fits (pos m) (negsuc n) t fx fy e h = mixed_sum m n (omega arith) (omega arith)
sum_fits (negsuc m) (pos n) t fx fy e h = mixed_sum n m (omega arith) (omega arith)

pub masked_sum : (x y : ℤ) (a b t : ℕ) → FitsSigned w64 x → FitsSigned w64 y → a ≡ of_z w64 x → b ≡ of_z w64 y → t ≡ (a + b) % 2 ^ 64 →
    bit_and (bit_xor a t) (bit_xor b t) < 2 ^ 63 → to_z w64 t ≡ x +ℤ y
masked_sum x y a b t fx fy ex ey et h =
    let tops : Tops (of_z w64 x) t (of_z w64 y) t = rw (← ex, ← ey) (top_bits a t b t h) in
    let wrapped : t ≡ (of_z w64 x + of_z w64 y) % 2 ^ 64 = rw (← ex, ← ey) et in
    rw (wrapped, wrapping_add-bits w64 (of_z w64 x) (of_z w64 y) (of_z-lt x fx) (of_z-lt y fy), to_z-of_z w64 x fx, to_z-of_z w64 y fy)
    (int_wrap_fits w64 (x +ℤ y) (sum_fits x y t fx fy wrapped tops))

-- differences
pos_less_neg : (m n t : ℕ) → m < 2 ^ 63 → n < 2 ^ 63 → t ≡ (m + (2 ^ 64 - (2 ^ 64 - suc n))) % 2 ^ 64 → Tops m (2 ^ 64 - suc n) m t → m + n + 1 < 2 ^ 63
pos_less_neg m n t a b e h = omega arith

neg_less_pos : (m n t : ℕ) → m < 2 ^ 63 → n < 2 ^ 63 → t ≡ (2 ^ 64 - suc m + (2 ^ 64 - n)) % 2 ^ 64 → Tops (2 ^ 64 - suc m) n (2 ^ 64 - suc m) t → m + n < 2 ^ 63
neg_less_pos m n t a b e h = omega arith

pos_pos : (m n : ℕ) → m < 2 ^ 63 → n < 2 ^ 63 → FitsSigned w64 (pos m -ℤ pos n)
pos_pos m n a b = omega (arith, ints)

neg_neg : (m n : ℕ) → m < 2 ^ 63 → n < 2 ^ 63 → FitsSigned w64 (negsuc m -ℤ negsuc n)
neg_neg m n a b = omega (arith, ints)

pos_neg : (m n : ℕ) → m + n + 1 < 2 ^ 63 → FitsSigned w64 (pos m -ℤ negsuc n)
pos_neg m n a = omega (arith, ints)

neg_pos : (m n : ℕ) → m + n < 2 ^ 63 → FitsSigned w64 (negsuc m -ℤ pos n)
neg_pos m n a = omega (arith, ints)

difference_fits : (x y : ℤ) (t : ℕ) → FitsSigned w64 x → FitsSigned w64 y → t ≡ (of_z w64 x + (2 ^ 64 - of_z w64 y)) % 2 ^ 64 → Tops (of_z w64 x) (of_z w64 y) (of_z w64 x) t → FitsSigned w64 (x -ℤ y)
difference_fits (pos m) (pos n) t fx fy e h = pos_pos m n (omega arith) (omega arith)
difference_fits (negsuc m) (negsuc n) t fx fy e h = neg_neg m n (omega arith) (omega arith)
difference_fits (pos m) (negsuc n) t fx fy e h = pos_neg m n (pos_less_neg m n t (omega arith) (omega arith) e h)
difference_fits (negsuc m) (pos n) t fx fy e h = neg_pos m n (neg_less_pos m n t (omega arith) (omega arith) e h)

pub masked_difference : (x y : ℤ) (a b t : ℕ) → FitsSigned w64 x → FitsSigned w64 y → a ≡ of_z w64 x → b ≡ of_z w64 y → t ≡ (a + (2 ^ 64 - b)) % 2 ^ 64 →
    bit_and (bit_xor a b) (bit_xor a t) < 2 ^ 63 → to_z w64 t ≡ x -ℤ y
masked_difference x y a b t fx fy ex ey et h =
    let tops : Tops (of_z w64 x) (of_z w64 y) (of_z w64 x) t = rw (← ex, ← ey) (top_bits a b a t h) in
    let wrapped : t ≡ (of_z w64 x + (2 ^ 64 - of_z w64 y)) % 2 ^ 64 = rw (← ex, ← ey) et in
    rw (wrapped, wrapping_sub-bits w64 (of_z w64 x) (of_z w64 y) (of_z-lt x fx) (of_z-lt y fy), to_z-of_z w64 x fx, to_z-of_z w64 y fy)
    (int_wrap_fits w64 (x -ℤ y) (difference_fits x y t fx fy wrapped tops))

-- the sign of a wrapped difference, turned where it overflowed
abbrev turned : ℕ → ℕ → ℕ → ℕ
turned p q t = bit_xor t (bit_and (bit_xor p q) (bit_xor p t))

-- its top bit, by those of both numbers and of the difference
abbrev turned_bit : ℕ → ℕ → ℕ → ℕ
turned_bit p q t = (t / 2 ^ 63 % 2 + min ((p / 2 ^ 63 % 2 + q / 2 ^ 63 % 2) % 2) ((p / 2 ^ 63 % 2 + t / 2 ^ 63 % 2) % 2)) % 2

turned_top : (p q t : ℕ) → p < 2 ^ 64 → q < 2 ^ 64 → t < 2 ^ 64 → turned p q t / 2 ^ 63 ≡ turned_bit p q t
turned_top p q t a b c =
    let low : turned p q t < 2 ^ 64 = xor_lt 64 t (bit_and (bit_xor p q) (bit_xor p t)) c (and_lt 64 (bit_xor p q) (bit_xor p t) (xor_lt 64 p q a b) (xor_lt 64 p t a c)) in
    let one : turned p q t / 2 ^ 63 ≡ turned p q t / 2 ^ 63 % 2 = omega arith in
    one ∙ rw (← bit_at_xor p q 63, ← bit_at_xor p t 63) (rw (← bit_at_and (bit_xor p q) (bit_xor p t) 63) (bit_at_xor t (bit_and (bit_xor p q) (bit_xor p t)) 63))

pos_under : (m n t : ℕ) → n < 2 ^ 63 → m < n → t ≡ (m + (2 ^ 64 - n)) % 2 ^ 64 → turned_bit m n t ≡ 1
pos_under m n t a b e = omega arith

pos_over : (m n t : ℕ) → m < 2 ^ 63 → n ≤ m → t ≡ (m + (2 ^ 64 - n)) % 2 ^ 64 → turned_bit m n t ≡ 0
pos_over m n t a b e = omega arith

neg_under : (m n t : ℕ) → m < 2 ^ 63 → n < m → t ≡ (2 ^ 64 - suc m + (2 ^ 64 - (2 ^ 64 - suc n))) % 2 ^ 64 → turned_bit (2 ^ 64 - suc m) (2 ^ 64 - suc n) t ≡ 1
neg_under m n t a b e = omega arith

neg_over : (m n t : ℕ) → n < 2 ^ 63 → m ≤ n → t ≡ (2 ^ 64 - suc m + (2 ^ 64 - (2 ^ 64 - suc n))) % 2 ^ 64 → turned_bit (2 ^ 64 - suc m) (2 ^ 64 - suc n) t ≡ 0
neg_over m n t a b e = omega arith

pos_over_neg : (m n t : ℕ) → m < 2 ^ 63 → n < 2 ^ 63 → t ≡ (m + (2 ^ 64 - (2 ^ 64 - suc n))) % 2 ^ 64 → turned_bit m (2 ^ 64 - suc n) t ≡ 0
pos_over_neg m n t a b e = omega arith

neg_under_pos : (m n t : ℕ) → m < 2 ^ 63 → n < 2 ^ 63 → t ≡ (2 ^ 64 - suc m + (2 ^ 64 - n)) % 2 ^ 64 → turned_bit (2 ^ 64 - suc m) n t ≡ 1
neg_under_pos m n t a b e = omega arith

pos_signs : (m n t : ℕ) (b : Bool) → nat_lt m n ≡ b → m < 2 ^ 63 → n < 2 ^ 63 → t ≡ (m + (2 ^ 64 - n)) % 2 ^ 64 → nat_eq (turned_bit m n t) 1 ≡ b
pos_signs m n t true l a b e = rw (pos_under m n t b (ltb-true m n l) e) refl
pos_signs m n t false l a b e = rw (pos_over m n t a (ltb-false m n l) e) refl

neg_signs : (m n t : ℕ) (b : Bool) → nat_lt n m ≡ b → m < 2 ^ 63 → n < 2 ^ 63 → t ≡ (2 ^ 64 - suc m + (2 ^ 64 - (2 ^ 64 - suc n))) % 2 ^ 64 → nat_eq (turned_bit (2 ^ 64 - suc m) (2 ^ 64 - suc n) t) 1 ≡ b
neg_signs m n t true l a b e = rw (neg_under m n t a (ltb-true n m l) e) refl
neg_signs m n t false l a b e = rw (neg_over m n t b (ltb-false n m l) e) refl

signs : (x y : ℤ) (t : ℕ) → FitsSigned w64 x → FitsSigned w64 y → t ≡ (of_z w64 x + (2 ^ 64 - of_z w64 y)) % 2 ^ 64 → nat_eq (turned_bit (of_z w64 x) (of_z w64 y) t) 1 ≡ int_lt x y
signs (pos m) (pos n) t fx fy e = pos_signs m n t (nat_lt m n) refl (omega arith) (omega arith) e
signs (negsuc m) (negsuc n) t fx fy e = neg_signs m n t (nat_lt n m) refl (omega arith) (omega arith) e
signs (pos m) (negsuc n) t fx fy e = rw (pos_over_neg m n t (omega arith) (omega arith) e) refl
signs (negsuc m) (pos n) t fx fy e = rw (neg_under_pos m n t (omega arith) (omega arith) e) refl

pub turned_less : (x y : ℤ) (a b t : ℕ) → FitsSigned w64 x → FitsSigned w64 y → a ≡ of_z w64 x → b ≡ of_z w64 y → t ≡ (a + (2 ^ 64 - b)) % 2 ^ 64 →
    nat_eq (bit_xor t (bit_and (bit_xor a b) (bit_xor a t)) / 2 ^ 63) 1 ≡ int_lt x y
turned_less x y a b t fx fy ex ey et =
    rw (turned_top a b t (rw ex (of_z-lt x fx)) (rw ey (of_z-lt y fy)) (omega arith)) (rw (ex, ey) (signs x y t fx fy (rw (← ex, ← ey) et)))
