-- Nouns for sentences that are worked out by hand.
use Rattle.std.specs.Prelude.{ℕ, ℤ, pos, List, [], ◌∷◌, map}
use Rattle.j_definitions.specs.Array.{Array, Atom, number, byte, boxed}
use Rattle.j_definitions.specs.declared.Kind.TheVariants.{Number, Character}

abbrev pub numbers_in : List ℕ → List ℕ → Array
numbers_in s ns = record { kind = Number; shape = s; atoms = map (λ n. number (pos n)) ns }

abbrev pub bytes_in : List ℕ → List ℕ → Array
bytes_in s bs = record { kind = Character; shape = s; atoms = map byte bs }

abbrev pub box_of : ℤ → Atom
box_of z = boxed (record { kind = Number; shape = []; atoms = number z ∷ [] })
