use Rattle.std.proofs.Common.{◌≡◌, pos, get_or}
use Rattle.std.specs.List.{filter}
use Rattle.std.specs.Ordering.{int_eq}
use Rattle.j_search.specs.Matching.{places}
use Rattle.j_search.proofs.kept.own_places.Given as goal

abbrev pub invariant-loop-k : goal.invariant-loop-k
invariant-loop-k l = l.own.items ≡ filter (λ k. int_eq (get_or l.places k (pos 0)) (pos k)) (places l.k)
