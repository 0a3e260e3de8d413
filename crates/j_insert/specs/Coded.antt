-- How the logic stores a noun whose items come one after the other.
use Rattle.std.specs.Prelude.{ℕ, refl}
use Rattle.std.specs.Coded.{Coded, code_by, coded×, coded_ℕ}
use Rattle.j_definitions.specs.Array.{Array}
use Rattle.j_definitions.specs.Stored.{array_code}
use Rattle.j_insert.specs.Insertion.{Remaining}

abbrev pub remaining_code : Coded Remaining
remaining_code = code_by (Array × ℕ) (coded× array_code coded_ℕ) (λ r. (r.noun, r.left)) (λ p. record { noun = p.0; left = p.1 }) (λ _. refl)
