-- The ledger.
use Rattle.std.specs.Prelude.{ℕ, ◌+◌, ◌-◌, ◌^◌, min}

-- n more were asked for; the count stays at its last value
abbrev pub raised : ℕ → ℕ → ℕ
raised asked n = min (asked + n) (2 ^ 64 - 1)
