-- Places in a noun: an index for each axis.
use Rattle.std.specs.Prelude.{ℕ, ◌+◌, ◌*◌, ◌≤◌, Bool, true, false, ◌&&◌, nat_lt, cond, List, [], ◌∷◌}
use Rattle.std.specs.List.{AllZip}
use lib.ListN.{get_or}
use Rattle.j_definitions.specs.Array.{Atom, product}

-- each axis is at most as long
abbrev pub IsUnder : List ℕ → List ℕ → Type 0
IsUnder s t = AllZip (λ m n. m ≤ n) s t

-- whether each index is below the length of its axis
abbrev pub is_inside : List ℕ → List ℕ → Bool
is_inside [] [] = true
is_inside (n ∷ s) (i ∷ is) = nat_lt i n && is_inside s is
is_inside _ _ = false

-- how many atoms come before those indices
abbrev pub place : List ℕ → List ℕ → ℕ
place (n ∷ s) (i ∷ is) = i * product s + place s is
place _ _ = 0

-- the atom of a shape at those indices, or z where there is none
abbrev pub atom_in : Atom → List ℕ → List Atom → List ℕ → Atom
atom_in z s xs is = cond (is_inside s is) (get_or xs (place s is) z) z
