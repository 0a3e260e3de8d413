use Rattle.std.proofs.Common.{◌≡◌, pos, map, cond, get_or}
use Rattle.std.specs.Ordering.{int_eq}
use Rattle.j_search.specs.Matching.{places}
use Rattle.j_search.proofs.kept.own_bits.Given as goal

abbrev pub invariant-loop-k : goal.invariant-loop-k
invariant-loop-k l = l.bits.items ≡ map (λ k. cond (int_eq (get_or l.places k (pos 0)) (pos k)) 1 0) (places l.k)
