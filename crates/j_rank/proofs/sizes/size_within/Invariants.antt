use Rattle.std.proofs.Common.{◌≡◌, ◌≤◌, ◌*◌, drop}
use Rattle.j_definitions.specs.Array.{product}
use Rattle.j_rank.proofs.sizes.size_within.Given as goal

abbrev pub invariant-loop-n : goal.invariant-loop-n
invariant-loop-n l = record {
  within : l.size ≤ 4194304;
  so_far : l.size * product (drop l.n-index l.axes) ≡ product l.axes;
}
