use Rattle.std.proofs.Common.{take}
use Rattle.std.specs.List.{All}
use Rattle.j_joining.specs.Brought.{IsListOf}
use Rattle.j_joining.proofs.razing.are_lists.Given as goal

abbrev pub invariant-loop-y : goal.invariant-loop-y
invariant-loop-y l = All (IsListOf l.kind) (take l.y-index l.nouns)
