use Rattle.std.proofs.Common.{◌≡◌, take}
use Rattle.j_indices.specs.Selecting.{runs_at}
use Rattle.j_indices.proofs.selecting.runs_at.Given as goal

abbrev pub invariant-loop-k : goal.invariant-loop-k
invariant-loop-k g l = l.out.items ≡ runs_at l.size l.all (take l.k-index l.places)
