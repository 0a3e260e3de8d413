-- The limits of nouns, as a test.
use Rattle.std.specs.Prelude.{◌&&◌, Bool, nat_le, cond, length, Result, Ok, Err}
use Rattle.std.specs.List.{list_all}
use Rattle.j_definitions.specs.Array.{Array, weight, level}
use Rattle.j_definitions.specs.declared.Fault.{Fault}
use Rattle.j_definitions.specs.declared.Fault.TheVariants.{Limit}

-- whether the limits of a noun hold
abbrev pub is_within : Array → Bool
is_within a = nat_le (length a.shape) 32 && list_all (λ n. nat_le n 4194304) a.shape && nat_le (weight a) 4194304 && nat_le (level a) 64

-- that noun, or `limit error` where it passes a limit
abbrev pub limited : Array → Result Array Fault
limited a = cond (is_within a) (Ok a) (Err Limit)
