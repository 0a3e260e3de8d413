use Rattle.std.proofs.Common.{take}
use Rattle.j_rank.specs.Joined.{AreBitsOf}
use Rattle.j_joining.specs.Brought.{all_atoms}
use Rattle.j_joining.proofs.razing.bits_of_lists.Given as goal

abbrev pub invariant-loop-y : goal.invariant-loop-y
invariant-loop-y l = AreBitsOf (all_atoms (take l.y-index l.lists)) l.out.items
