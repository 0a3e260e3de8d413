use Rattle.std.proofs.Common.{◌≡◌, map, pos}
use Rattle.j_indices.proofs.Counts.{places_before}
use Rattle.j_indices.proofs.counting.indices_listed.Given as goal

abbrev pub invariant-loop-k : goal.invariant-loop-k
invariant-loop-k g l = l.out.items ≡ map (λ k. pos k) (places_before g.N.Whole.value l.counts l.k)
