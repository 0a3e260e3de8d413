use Rattle.std.proofs.Common.{◌≡◌, ◌++◌, replicate}
use Rattle.j_indices.proofs.copying.append_times.Given as goal

abbrev pub invariant-loop : goal.invariant-loop
invariant-loop l = l.out.items ≡ l.fn.out.items ++ replicate l.counter l.place
