use Rattle.std.proofs.Common.{◌≡◌, ◌≤◌, length, take}
use Rattle.j_joining.specs.Brought.{all_atoms}
use Rattle.j_joining.proofs.razing.count_within.Given as goal

abbrev pub invariant-loop-y : goal.invariant-loop-y
invariant-loop-y l = record {
  so_far : l.total ≡ length (all_atoms (take l.y-index l.lists));
  within : l.total ≤ 4194304;
}
