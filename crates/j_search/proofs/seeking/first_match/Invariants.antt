use Rattle.std.proofs.Common.{◌≡◌, ◌<◌, ℕ, false}
use Rattle.std.specs.Cmp.Lexicographic.{pointwise}
use Rattle.j_search.specs.Sought.{run}
use Rattle.j_search.proofs.seeking.first_match.Given as goal

abbrev pub invariant-loop-j : goal.invariant-loop-j
invariant-loop-j g l = (i : ℕ) → i < l.j → pointwise g.T.Key.same (run l.size l.items i) l.cell ≡ false
