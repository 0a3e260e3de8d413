use Rattle.std.proofs.Common.{◌≡◌, ◌<◌, ℕ, true}
use Rattle.j_search.specs.Searched.{run_before}
use Rattle.j_search.proofs.sought.boundary.Given as goal

abbrev pub invariant-loop-at : goal.invariant-loop-at
invariant-loop-at g l = (s : ℕ) → s < l.at → run_before l.side g.T.Ord.cmp l.size l.items l.cell l.order s ≡ true
