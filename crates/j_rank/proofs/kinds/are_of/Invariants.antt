use Rattle.std.proofs.Common.{◌≡◌, drop}
use Rattle.std.specs.List.{list_all}
use Rattle.j_rank.specs.Assembly.{same_kind, kinds_with_atoms}
use Rattle.j_rank.proofs.kinds.are_of.Given as goal

abbrev pub invariant-loop-r : goal.invariant-loop-r
invariant-loop-r l = list_all (same_kind l.kind) (kinds_with_atoms l.results) ≡ list_all (same_kind l.kind) (kinds_with_atoms (drop l.r-index l.results))
