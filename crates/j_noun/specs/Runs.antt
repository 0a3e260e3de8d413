-- Runs of two lists, for the crate's own functions.
use Rattle.std.specs.Prelude.{◌≡◌, ℕ, Bool, ◌&&◌, length, drop}
use Rattle.std.specs.Ordering.{int_eq}
use Rattle.std.specs.Cmp.Lexicographic.{pointwise}
use Rattle.j_noun.specs.declared.blocks.Run.{Run}

-- a run has 1,024 pairs
pub record IsRun (r : Run) : Type 0 where
  pub first : length r.x.now ≡ 1024
  pub second : length r.y.now ≡ 1024

-- the pairs of a run are equal from pair i on
abbrev pub equal_from : Run → ℕ → Bool
equal_from r i = pointwise int_eq (drop i r.x.now) (drop i r.y.now)

-- those of four runs
abbrev pub all_equal_from : Run → Run → Run → Run → ℕ → Bool
all_equal_from a b c d i = equal_from a i && (equal_from b i && (equal_from c i && equal_from d i))
