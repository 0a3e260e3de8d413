use Rattle.std.proofs.Common.{◌≡◌}
use Rattle.std.specs.List.{All}
use Rattle.j_search.specs.Matching.{places}
use Rattle.j_search.specs.Graded.{places_with, IsKeyedBack}
use Rattle.j_search.proofs.order.keyed_down.Given as goal

abbrev pub invariant-loop-k : goal.invariant-loop-k
invariant-loop-k g l = record {
  places : places_with l.keys.items ≡ places l.k;
  runs : All (IsKeyedBack l.size l.all) l.keys.items;
}
