use Rattle.std.proofs.Common.{◌≡◌, ◌<◌, ◌≤◌, ◌+◌, ℕ, false}
use Rattle.std.specs.Cmp.Lexicographic.{pointwise}
use Rattle.j_search.specs.Sought.{run}
use Rattle.j_search.proofs.seeking.last_match.Given as goal

abbrev pub invariant-loop-behind : goal.invariant-loop-behind
invariant-loop-behind g l = (i : ℕ) → i < l.count → l.count ≤ i + l.behind → pointwise g.T.Key.same (run l.size l.items i) l.cell ≡ false
