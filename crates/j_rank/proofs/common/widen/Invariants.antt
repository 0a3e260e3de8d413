use Rattle.std.proofs.Common.{◌≡◌, ◌<◌, ◌≤◌, ℕ, max, length, get_or}
use Rattle.j_rank.specs.Assembly.{with_rank}
use Rattle.j_rank.proofs.common.widen.Given as goal

abbrev pub invariant-loop-k : goal.invariant-loop-k
invariant-loop-k l = record {
  done : (j : ℕ) → j < l.k → get_or l.lengths j 0 ≡ max (get_or l.fn.lengths j 0) (get_or (with_rank (length l.fn.lengths) l.axes) j 0);
  rest : (j : ℕ) → l.k ≤ j → get_or l.lengths j 0 ≡ get_or l.fn.lengths j 0;
}
