use Rattle.std.proofs.Common.{◌≡◌, drop}
use Rattle.j_rank.specs.Assembly.{kinds_with_atoms}
use Rattle.j_rank.proofs.kinds.first_kind.Given as goal

abbrev pub invariant-loop-r : goal.invariant-loop-r
invariant-loop-r l = kinds_with_atoms l.results ≡ kinds_with_atoms (drop l.r-index l.results)
