use Rattle.std.proofs.Common.{◌≡◌}
use Rattle.j_search.specs.Sought.{run_places}
use Rattle.j_search.proofs.seeking.find_each.Given as goal

abbrev pub invariant-loop-k : goal.invariant-loop-k
invariant-loop-k g l = l.places.items ≡ run_places g.T.Key.same l.side l.sizes.size l.sizes.items l.k l.items l.cells
