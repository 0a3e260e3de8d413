use Rattle.std.proofs.Common.{◌≡◌, map, take}
use Rattle.j_definitions.specs.Array.{boxed}
use Rattle.j_joining.specs.Brought.{all_atoms}
use Rattle.j_joining.proofs.razing.nouns_of.Given as goal

abbrev pub invariant-loop-y : goal.invariant-loop-y
invariant-loop-y l = map boxed l.out.items ≡ all_atoms (take l.y-index l.lists)
