use Rattle.std.proofs.Common.{◌≡◌, ◌++◌, []}
use Rattle.j_indices.proofs.Chosen.{parts}
use Rattle.j_indices.proofs.counting.append_axis.Given as goal

abbrev pub invariant-loop-k : goal.invariant-loop-k
invariant-loop-k l = l.out.items ≡ l.fn.out.items ++ parts l.start l.length [] 1 l.k
