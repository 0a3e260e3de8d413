use Rattle.std.proofs.Common.{take}
use Rattle.std.specs.List.{All}
use Rattle.j_search.specs.Ranged.{IsBetween}
use Rattle.j_search.proofs.numbered.bounds.Given as goal

abbrev pub invariant-loop-item : goal.invariant-loop-item
invariant-loop-item g l = All (IsBetween g.T.Numbered.number l.low l.high) (take l.item-index l.items)
