-- Numbers between bounds.
use Rattle.std.specs.Prelude.{ℤ, pos, ◌+ℤ◌, ◌≤ℤ◌, ◌<ℤ◌}
use Rattle.j_search.specs.declared.numbered.Range.{Range}

-- an element whose number lies between two
abbrev pub IsBetween : {X : Type 0} → (X → ℤ) → ℤ → ℤ → X → Type 0
IsBetween number low high x = (low ≤ℤ number x) × (number x ≤ℤ high)

-- a number of a range
pub record LiesIn (r : Range) (z : ℤ) : Type 0 where
  pub low : r.low ≤ℤ z
  pub high : z <ℤ (r.low +ℤ pos r.width)
