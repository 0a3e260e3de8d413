-- Atoms that are numbers, and atoms that aren't.
use Rattle.std.proofs.Common.{◌≡◌, ◌<◌, ℕ, ℤ, pos, List, [], ◌∷◌, length, map, arith, refl, ap, Ok, Err}
use Rattle.j_definitions.specs.Array.{Array, number, byte, boxed}
use Rattle.j_definitions.specs.Cells.{with_first}
use Rattle.j_definitions.specs.declared.Fault.{Fault}
use Rattle.j_definitions.specs.declared.Fault.TheVariants.{Domain}
use Rattle.j_indices.specs.Numbers.{whole_numbers}

pub whole_wholes : (xs : List ℤ) → whole_numbers (map number xs) ≡ Ok xs
whole_wholes [] = refl
whole_wholes (x ∷ xs) = ap (with_first {C = ℤ} {E = Fault} x) (whole_wholes xs)

pub whole_bits : (bs : List ℕ) → whole_numbers (map (λ b. number (pos b)) bs) ≡ Ok (map (λ b. pos b) bs)
whole_bits [] = refl
whole_bits (b ∷ bs) = ap (with_first {C = ℤ} {E = Fault} (pos b)) (whole_bits bs)

pub whole_bytes : (bs : List ℕ) → 0 < length bs → whole_numbers (map byte bs) ≡ Err Domain
whole_bytes [] h = absurd (omega arith)
whole_bytes (b ∷ bs) h = refl

pub whole_boxes : (ys : List Array) → 0 < length ys → whole_numbers (map boxed ys) ≡ Err Domain
whole_boxes [] h = absurd (omega arith)
whole_boxes (y ∷ ys) h = refl
