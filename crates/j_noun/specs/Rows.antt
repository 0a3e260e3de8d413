-- Nouns as rows worked out by hand name them.
use Rattle.std.specs.Prelude.{ℕ, zero, suc, ℤ, pos, List, [], ◌∷◌, length, map}
use Rattle.std.proofs.Math.ListN.{replicate}
use Rattle.j_definitions.specs.Array.{Array, number, byte, boxed, atom_array}
use Rattle.j_definitions.specs.declared.Kind.{Kind}
use Rattle.j_definitions.specs.declared.Kind.TheVariants.{Number, Character, Boxed}

-- a noun without atoms
abbrev pub nothing : Kind → List ℕ → Array
nothing k s = record { kind = k; shape = s; atoms = [] }

abbrev pub numbers : List ℤ → Array
numbers ns = record { kind = Number; shape = length ns ∷ []; atoms = map number ns }

abbrev pub characters : List ℕ → Array
characters bs = record { kind = Character; shape = length bs ∷ []; atoms = map byte bs }

-- the list of these nouns, each in a box
abbrev pub boxes : List Array → Array
boxes ys = record { kind = Boxed; shape = length ys ∷ []; atoms = map boxed ys }

-- 5 in n boxes, one in the other
abbrev pub five_in : ℕ → Array
five_in zero = atom_array Number (number (pos 5))
five_in (suc n) = atom_array Boxed (boxed (five_in n))

-- a noun without atoms, of n axes, each of length 0
abbrev pub axes_of_0 : ℕ → Array
axes_of_0 n = nothing Number (replicate n 0)
