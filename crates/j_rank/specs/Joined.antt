-- Results that are gathered in one kind.
use Rattle.std.specs.Prelude.{◌≡◌, ℕ, ◌<◌, pos, List, [], ◌∷◌, length, map}
use Rattle.std.specs.List.{All}
use Rattle.j_definitions.specs.Array.{Array, Atom, number}
use Rattle.j_definitions.specs.declared.Kind.{Kind}
use Rattle.j_definitions.specs.declared.Kind.TheVariants.{Number}

-- the first of these kinds, and where there are none that of the first result
abbrev pub first_of : List Kind → List Array → Kind
first_of (k ∷ rest) results = k
first_of [] (a ∷ rest) = a.kind
first_of [] [] = Number

-- a result has that kind, unless it has no atoms
abbrev pub Joins : Kind → Array → Type 0
Joins k a = 0 < length a.atoms → a.kind ≡ k

-- bits that are these numbers
pub record AreBitsOf (xs : List Atom) (bits : List ℕ) : Type 0 where
  pub atoms : map (λ b. number (pos b)) bits ≡ xs
  pub low : All (λ b. b < 2) bits
