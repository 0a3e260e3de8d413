-- Nouns, for the rows worked out by hand.
use Rattle.std.specs.Prelude.{ℕ, ℤ, List, map}
use Rattle.j_definitions.specs.Array.{Array, number}
use Rattle.j_definitions.specs.declared.Kind.TheVariants.{Number as NumberKind}

abbrev pub integers_in : List ℕ → List ℤ → Array
integers_in s zs = record { kind = NumberKind; shape = s; atoms = map (λ z. number z) zs }
