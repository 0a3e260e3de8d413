use Rattle.std.proofs.Common.{◌≡◌, ◌≤◌, take}
use Rattle.std.specs.List.{All}
use Rattle.j_definitions.specs.Array.{IsNoun}
use Rattle.j_rank.specs.Assembly.{greatest_rank}
use Rattle.j_rank.proofs.common.greatest_rank.Given as goal

abbrev pub invariant-loop-r : goal.invariant-loop-r
invariant-loop-r l = record {
  value : l.rank ≡ greatest_rank (take l.r-index l.results);
  few : l.rank ≤ 32;
  nouns : All IsNoun (take l.r-index l.results);
}
