-- Nouns for rows that are worked out by hand.
use Rattle.std.specs.Prelude.{ℕ, ℤ, pos, List, [], ◌∷◌, map}
use Rattle.j_definitions.specs.Array.{Array, number, byte, boxed}
use Rattle.j_definitions.specs.declared.Kind.TheVariants.{Number, Character, Boxed}

abbrev pub whole_numbers : List ℕ → List ℤ → Array
whole_numbers s zs = record { kind = Number; shape = s; atoms = map number zs }

abbrev pub numbers : List ℕ → List ℕ → Array
numbers s ns = whole_numbers s (map pos ns)

abbrev pub characters : List ℕ → List ℕ → Array
characters s text = record { kind = Character; shape = s; atoms = map byte text }

abbrev pub boxes : List ℕ → List Array → Array
boxes s ys = record { kind = Boxed; shape = s; atoms = map boxed ys }

abbrev pub box : Array → Array
box y = boxes [] (y ∷ [])
