use Rattle.std.proofs.Common.{◌≡◌, take}
use Rattle.std.specs.List.{All}
use Rattle.j_definitions.specs.Array.{IsNoun}
use Rattle.j_eval.specs.Boxing.{alone_each}
use Rattle.j_eval.specs.Meets.{Kept}
use Rattle.j_eval.specs.Sources.{source_of}
use Rattle.j_eval.proofs.machine.Machine.contents.Given as goal

-- the cells so far
abbrev pub invariant-loop-k : goal.invariant-loop-k
invariant-loop-k l = record {
  cells : take l.k (source_of l.cells).pairs ≡ alone_each l.contents.items;
  nouns : All IsNoun l.contents.items;
  kept : Kept l.fn.self l.self;
}
