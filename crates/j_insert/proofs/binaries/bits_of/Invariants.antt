use Rattle.j_insert.specs.Listed.{listed}
use Rattle.j_insert.proofs.Found.{Backward}
use Rattle.j_insert.proofs.binaries.bits_of.Given as goal

abbrev pub invariant-loop-k : goal.invariant-loop-k
invariant-loop-k l = Backward (listed l.numbers) l.out.items l.d l.n l.k
