use Rattle.j_insert.specs.Listed.{listed}
use Rattle.j_insert.proofs.Found.{Found}
use Rattle.j_insert.proofs.digits.digits_of.Given as goal

abbrev pub invariant-loop-k : goal.invariant-loop-k
invariant-loop-k l = Found (listed l.bases) l.y l.rest l.out.items l.k
