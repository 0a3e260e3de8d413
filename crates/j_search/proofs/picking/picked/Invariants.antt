use Rattle.std.proofs.Common.{◌≡◌, take}
use Rattle.std.specs.List.{flat_map}
use Rattle.j_search.specs.Sought.{run}
use Rattle.j_search.proofs.picking.picked.Given as goal

abbrev pub invariant-loop-k : goal.invariant-loop-k
invariant-loop-k g l = l.out.items ≡ flat_map (run l.size l.all) (take l.k-index l.places)
