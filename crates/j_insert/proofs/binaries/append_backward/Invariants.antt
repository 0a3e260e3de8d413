use Rattle.j_insert.proofs.Found.{Appended}
use Rattle.j_insert.proofs.binaries.append_backward.Given as goal

abbrev pub invariant-loop : goal.invariant-loop
invariant-loop l = Appended l.fn.out.items l.out.items l.d l.counter l.rest l.z
