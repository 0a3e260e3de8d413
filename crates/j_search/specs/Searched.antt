-- What a search among places in order says.
use Rattle.std.specs.Prelude.{◌≡◌, ◌<◌, ◌≤◌, ℕ, Bool, true, false, List, length}
use Rattle.std.specs.declared.cmp.Ordering.{Ordering}
use Rattle.std.specs.Ordering.{is_lt, is_le}
use Rattle.std.specs.Cmp.Lexicographic.{slice_cmp}
use lib.ListN.{get_or}
use Rattle.j_search.specs.declared.seeking.Side.{Side}
use Rattle.j_search.specs.declared.seeking.Side.TheVariants.{First, Last}
use Rattle.j_search.specs.Sought.{run}

-- what is less comes before the first of equal runs, and what isn't greater up to the last
abbrev pub comes_before : Side → Ordering → Bool
comes_before First o = is_lt o
comes_before Last o = is_le o

-- whether the run at place s of the order comes before a cell
abbrev pub run_before : {X : Type 0} → Side → (X → X → Ordering) → ℕ → List X → List X → List ℕ → ℕ → Bool
run_before side C size xs cell ks s = comes_before side (slice_cmp C (run size xs (get_or ks s 0)) cell)

-- so many come before a cell, and they are in front
pub record IsBoundary {X : Type 0} (side : Side) (C : X → X → Ordering) (size : ℕ) (xs cell : List X) (ks : List ℕ) (b : ℕ) : Type 0 where
  pub within : b ≤ length ks
  pub front : (s : ℕ) → s < b → run_before side C size xs cell ks s ≡ true
  pub back : (s : ℕ) → b ≤ s → s < length ks → run_before side C size xs cell ks s ≡ false
