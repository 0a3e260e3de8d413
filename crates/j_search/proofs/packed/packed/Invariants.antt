use Rattle.std.proofs.Common.{◌≡◌, map}
use Rattle.std.specs.List.{All}
use Rattle.j_search.specs.Matching.{places}
use Rattle.j_search.specs.Packed.{place_in, IsPacked}
use Rattle.j_search.proofs.packed.packed.Given as goal

abbrev pub invariant-loop-k : goal.invariant-loop-k
invariant-loop-k g l = record {
  places : map place_in l.words.items ≡ places l.k;
  words : All (IsPacked g.T.Numbered.number l.direction l.range l.items) l.words.items;
}
