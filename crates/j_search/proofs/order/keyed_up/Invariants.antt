use Rattle.std.proofs.Common.{◌≡◌}
use Rattle.std.specs.List.{All}
use Rattle.j_search.specs.Matching.{places}
use Rattle.j_search.specs.Graded.{places_with, IsKeyed}
use Rattle.j_search.proofs.order.keyed_up.Given as goal

abbrev pub invariant-loop-k : goal.invariant-loop-k
invariant-loop-k g l = record {
  places : places_with l.keys.items ≡ places l.k;
  runs : All (IsKeyed l.size l.all) l.keys.items;
}
