use Rattle.std.proofs.Common.{◌≡◌, map, take}
use Rattle.j_definitions.specs.Array.{number}
use Rattle.j_joining.specs.Brought.{all_atoms}
use Rattle.j_joining.proofs.razing.wholes_of.Given as goal

abbrev pub invariant-loop-y : goal.invariant-loop-y
invariant-loop-y l = map number l.out.items ≡ all_atoms (take l.y-index l.lists)
