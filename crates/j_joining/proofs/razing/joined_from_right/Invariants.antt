use Rattle.std.proofs.Common.{◌≡◌, ◌<◌, length, drop, Ok}
use Rattle.j_joining.specs.Joining.{joined_right}
use Rattle.j_joining.proofs.razing.joined_from_right.Given as goal

abbrev pub invariant-loop-k : goal.invariant-loop-k
invariant-loop-k l = record {
  place : l.k < length l.nouns;
  so_far : joined_right (drop l.k l.nouns) ≡ Ok l.all;
}

abbrev pub decreases-loop-k : goal.decreases-loop-k
decreases-loop-k l = l.k
