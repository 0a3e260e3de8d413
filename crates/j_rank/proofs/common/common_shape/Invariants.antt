use Rattle.std.proofs.Common.{◌≡◌, length, take}
use Rattle.j_rank.specs.Assembly.{greatest_axes}
use Rattle.j_rank.proofs.common.common_shape.Given as goal

abbrev pub invariant-loop-r : goal.invariant-loop-r
invariant-loop-r l = record {
  many : length l.lengths ≡ l.rank;
  value : l.lengths ≡ greatest_axes l.rank (take l.r-index l.results);
}
