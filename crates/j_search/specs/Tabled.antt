-- What a table of places says.
use Rattle.std.specs.Prelude.{◌≡◌, ◌<◌, ℕ, ℤ, pos, ◌+ℤ◌, List, length}
use Rattle.std.specs.Ordering.{int_eq}
use lib.ListN.{get_or}
use Rattle.j_search.specs.declared.seeking.Side.{Side}
use Rattle.j_search.specs.declared.numbered.Range.{Range}
use Rattle.j_search.specs.Sought.{place_of}

-- the first or the last place of a number among others
abbrev pub number_place : Side → List ℤ → ℤ → ℕ
number_place side zs z = place_of side (λ j. int_eq (get_or zs j (pos 0)) z) (length zs)

-- for each number of a range its place
pub record IsTable (side : Side) (r : Range) (zs : List ℤ) (table : List ℤ) : Type 0 where
  pub wide : length table ≡ r.width
  pub there : (w : ℕ) → w < r.width → get_or table w (pos 0) ≡ pos (number_place side zs (r.low +ℤ pos w))
