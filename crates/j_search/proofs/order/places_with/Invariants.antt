use Rattle.std.proofs.Common.{◌≡◌, take}
use Rattle.j_search.specs.Graded.{places_with}
use Rattle.j_search.proofs.order.places_with.Given as goal

abbrev pub invariant-loop-key : goal.invariant-loop-key
invariant-loop-key g l = l.places.items ≡ places_with (take l.key-index l.keys)
