-- Items at indices.
use Rattle.std.proofs.Common.{◌≡◌, ◌<◌, ◌≤◌, ℕ, ℤ, Bool, cond, List, [], ◌∷◌, length, arith, refl, ap, Result}
use Rattle.std.proofs.lemmas.Bool.{lt-ltb, le-ltb}
use Rattle.j_definitions.specs.Array.{Array, tally}
use Rattle.j_definitions.specs.Limits.{limited}
use Rattle.j_definitions.specs.declared.Kind.TheVariants.{Number}
use Rattle.j_definitions.specs.declared.Fault.{Fault}
use Rattle.j_indices.specs.Selecting.{cells_at, items_indexed}
use Rattle.j_indices.specs.Indexing.{from_numbers}

pub numbers_some : (s : List ℕ) (zs : List ℤ) (y : Array) → 0 < length zs → from_numbers s zs y ≡ items_indexed s zs y
numbers_some s [] y h = absurd (omega arith)
numbers_some s (z ∷ zs) y h = refl

-- what stands where there are no indices
abbrev none_where : List ℕ → Array → Bool → Result Array Fault
none_where s y b = cond b (limited (cells_at s 1 y [])) (limited (record { kind = Number; shape = s; atoms = [] }))

pub none_as_item : (s : List ℕ) (y : Array) → 0 < tally y.shape → from_numbers s [] y ≡ limited (cells_at s 1 y [])
none_as_item s y h = ap (none_where s y) (lt-ltb 0 (tally y.shape) h)

pub none_as_number : (s : List ℕ) (y : Array) → tally y.shape ≤ 0 → from_numbers s [] y ≡ limited (record { kind = Number; shape = s; atoms = [] })
none_as_number s y h = ap (none_where s y) (le-ltb 0 (tally y.shape) h)
