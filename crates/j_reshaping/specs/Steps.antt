-- Elements in equal steps, and orders of axes, for the crate's own functions.
use Rattle.std.specs.Prelude.{◌≡◌, ℕ, ◌+◌, ◌-◌, ◌*◌, ◌<◌, List, ◌∷◌, map, take, drop}
use Rattle.std.specs.List.{All, flat_map, sum_by, range_with_len}
use Rattle.j_definitions.specs.Array.{Atom}
use Rattle.j_definitions.specs.Cells.{atom_at}

-- one more than the last of the places from 0, where no length is 0
abbrev pub reach : List ℕ → List ℕ → ℕ
reach (n ∷ lengths) (d ∷ steps) = (n - 1) * d + reach lengths steps
reach _ _ = 1

-- the elements at places
abbrev pub elements_at : {X : Type 0} → List X → List ℕ → List X
elements_at xs ks = flat_map (λ k. take 1 (drop k xs)) ks

-- each of n axes stands in the order once
pub record IsOrder (n : ℕ) (order : List ℕ) : Type 0 where
  pub within : All (λ a. a < n) order
  pub each : (w : ℕ → ℕ) → sum_by w order ≡ sum_by w (range_with_len 0 n)

-- the atoms at places
abbrev pub atoms_at : List Atom → List ℕ → List Atom
atoms_at xs ks = map (atom_at xs) ks
