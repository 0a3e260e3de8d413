-- Sizes of numbers, as far as they matter: a size beyond 2^63 is as good as any other.
use Rattle.std.specs.Prelude.{ℕ, min}

abbrev pub capped : ℕ → ℕ
capped n = min n 9223372036854775809
