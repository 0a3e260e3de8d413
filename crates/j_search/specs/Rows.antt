-- Names for the rows worked out by hand.
use Rattle.std.specs.Prelude.{ℤ, List, [], ◌∷◌, length, map}
use Rattle.j_definitions.specs.Array.{Array, number}
use Rattle.j_definitions.specs.declared.Kind.TheVariants.{Number}

-- a list of integers of any sign
abbrev pub integers : List ℤ → Array
integers zs = record { kind = Number; shape = length zs ∷ []; atoms = map number zs }
