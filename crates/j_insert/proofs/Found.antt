-- The digits that are found so far.
use Rattle.std.proofs.Common.{◌≡◌, ◌≤◌, ◌^◌, ◌++◌, ◌<◌, ◌-◌, ℕ, ℤ, pos, List, map, replicate, true, drop, reverse, length}
use Rattle.std.specs.List.{All, list_all, flat_map}
use Rattle.std.specs.Int.RustNames.{unsigned_abs}
use Rattle.j_definitions.specs.Range.{in_range}
use Rattle.j_insert.specs.Digits.{digits_from_last, digits_backward, binary}

pub record Found (xs : List ℤ) (y rest : ℤ) (out : List ℤ) (k : ℕ) : Type 0 where
  pub all : digits_backward xs y ≡ out ++ digits_from_last (drop k (reverse xs)) rest
  pub fit : list_all in_range out ≡ true
  pub bound : unsigned_abs rest ≤ 2 ^ 63
  pub many : length out ≡ k

-- k of d binary digits of z are appended to what was there
pub record Appended (old out : List ℕ) (d k : ℕ) (rest z : ℤ) : Type 0 where
  pub digits : map pos out ++ digits_from_last (replicate (d - k) (pos 2)) rest ≡ map pos old ++ digits_from_last (replicate d (pos 2)) z
  pub bits : All (λ b. b < 2) out

-- the digits of the last k of n numbers
pub record Backward (xs : List ℤ) (out : List ℕ) (d n k : ℕ) : Type 0 where
  pub digits : map pos out ≡ reverse (flat_map (binary d) (drop (n - k) xs))
  pub bits : All (λ b. b < 2) out
