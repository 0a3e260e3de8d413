-- How a number is printed.
use Rattle.std.specs.Prelude.{ℕ, ℤ, pos, negsuc, suc, decimal, List, ◌∷◌}

-- decimal digits, with `_` before them for minus
abbrev pub printed : ℤ → List ℕ
printed (pos n) = decimal n
printed (negsuc n) = 95 ∷ decimal (suc n)
