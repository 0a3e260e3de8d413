-- Numbers as the code of this crate reads them.
use Rattle.std.specs.Prelude.{ℕ, ℤ, pos, List, map, replicate, Result, Ok, Err}
use Rattle.j_definitions.specs.declared.Fault.{Fault}
use Rattle.j_insert.specs.declared.numbers.Numbers.{Numbers}
use Rattle.j_insert.specs.declared.numbers.Numbers.TheVariants.{Wholes, Bits}
use Rattle.j_insert.specs.declared.numbers.Serving.{Serving}
use Rattle.j_insert.specs.declared.numbers.Serving.TheVariants.{One, Each}

abbrev pub listed : Numbers → List ℤ
listed (Wholes v) = v.now
listed (Bits v) = map pos v.now

-- numbers that are all there, or a fault
abbrev pub listed_or : Result Numbers Fault → Result (List ℤ) Fault
listed_or (Ok ns) = Ok (listed ns)
listed_or (Err e) = Err e

-- n numbers
abbrev pub serving : Serving → ℕ → List ℤ
serving (One z) n = replicate n z
serving (Each ns) n = listed ns
