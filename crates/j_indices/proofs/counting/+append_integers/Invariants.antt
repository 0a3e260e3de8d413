use Rattle.std.proofs.Common.{◌≡◌, ◌++◌, length, map}
use Rattle.j_indices.proofs.Chosen.{parts}
use Rattle.j_indices.proofs.counting.+append_integers.Given as goal

abbrev pub decreases-append_integers : goal.decreases-append_integers
decreases-append_integers g l = length l.lengths.now

abbrev pub invariant-loop-k : goal.invariant-loop-k
invariant-loop-k g l = l.out.items ≡ l.fn.out.items ++ parts l.start l.length (map g.N.Whole.value l.rest) l.step l.k
