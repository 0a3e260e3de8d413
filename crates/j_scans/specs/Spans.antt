-- Items from one place up to another.
use Rattle.std.specs.Prelude.{ℕ, ◌≤◌, ◌-◌, List, ◌++◌}
use Rattle.std.specs.List.{range_with_len}
use Rattle.j_scans.specs.declared.copying.Span.{Span}

-- the places from the start up to the end
abbrev pub places_in : Span → List ℕ
places_in s = range_with_len s.start (s.end - s.start)

-- of n items the places before the start, and those from the end on
abbrev pub places_out : ℕ → Span → List ℕ
places_out n s = range_with_len 0 s.start ++ range_with_len s.end (n - s.end)

-- a span of n items
pub record IsSpan (n : ℕ) (s : Span) : Type 0 where
  pub ordered : s.start ≤ s.end
  pub inside : s.end ≤ n
