-- The numbers of a noun, as ranks.
use Rattle.std.proofs.Common.{◌≡◌, ℕ, ℤ, pos, List, [], ◌∷◌, map, length, ◌≤◌, refl, arith}
use Rattle.j_definitions.specs.Array.{Array, number, byte, boxed}
use Rattle.j_entity.specs.Ranks.{endless, listed_ranks, numbers_in}

pub many : (l : List ℤ) → 4 ≤ length l → endless ≡ listed_ranks (numbers_in (map number l))
many [] h = absurd (omega arith)
many (a ∷ []) h = absurd (omega arith)
many (a ∷ b ∷ []) h = absurd (omega arith)
many (a ∷ b ∷ c ∷ []) h = absurd (omega arith)
many (a ∷ b ∷ c ∷ d ∷ l) h = refl

pub many_bits : (l : List ℕ) → 4 ≤ length l → endless ≡ listed_ranks (numbers_in (map (λ b. number (pos b)) l))
many_bits [] h = absurd (omega arith)
many_bits (a ∷ []) h = absurd (omega arith)
many_bits (a ∷ b ∷ []) h = absurd (omega arith)
many_bits (a ∷ b ∷ c ∷ []) h = absurd (omega arith)
many_bits (a ∷ b ∷ c ∷ d ∷ l) h = refl

-- characters and boxes say no ranks
pub no_bytes : (l : List ℕ) → endless ≡ listed_ranks (numbers_in (map byte l))
no_bytes [] = refl
no_bytes (b ∷ l) = no_bytes l

pub no_boxes : (l : List Array) → endless ≡ listed_ranks (numbers_in (map boxed l))
no_boxes [] = refl
no_boxes (a ∷ l) = no_boxes l
