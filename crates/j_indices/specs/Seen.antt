-- Numbers of either storage, as code sees them.
use Rattle.std.specs.Prelude.{ℤ, pos, List, map}
use Rattle.j_indices.specs.declared.numbers.Numbers.{Numbers}
use Rattle.j_indices.specs.declared.numbers.Numbers.TheVariants.{Wholes, Bits}

abbrev pub seen : Numbers → List ℤ
seen (Wholes v) = v.now
seen (Bits v) = map (λ b. pos b) v.now
