use Rattle.std.proofs.Common.{◌≡◌, length}
use Rattle.j_definitions.specs.Array.{Array, boxed}
use Rattle.j_indices.specs.Indexing.{from_at}
use Rattle.j_indices.proofs.Indices.{GivesFirst}
use Rattle.j_select.proofs.reaching.boxes_taken.Given as goal

abbrev pub invariant-loop-noun : goal.invariant-loop-noun
invariant-loop-noun l = record {
  frame : l.results.frame ≡ l.initial.results.frame;
  given : GivesFirst (λ (a : Array). from_at (boxed a) l.y) l.held l.noun-index l.results.results;
  many : length l.results.results ≡ l.noun-index;
}
