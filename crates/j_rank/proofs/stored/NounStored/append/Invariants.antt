use Rattle.std.proofs.Common.{◌≡◌, ◌++◌, take}
use Rattle.j_rank.proofs.stored.NounStored.append.Given as goal

abbrev pub invariant-loop-y : goal.invariant-loop-y
invariant-loop-y l = l.out.items ≡ l.fn.out.items ++ take l.y-index l.run
