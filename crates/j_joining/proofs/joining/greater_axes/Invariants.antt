use Rattle.std.proofs.Common.{◌≡◌, ◌<◌, ℕ, max, length, get_or}
use Rattle.j_joining.proofs.joining.greater_axes.Given as goal

abbrev pub invariant-loop-k : goal.invariant-loop-k
invariant-loop-k l = record {
  many : length l.lengths ≡ 32;
  done : (j : ℕ) → j < l.k → get_or l.lengths j 0 ≡ max (get_or l.s j 0) (get_or l.t j 0);
}
