use Rattle.std.proofs.Common.{◌≡◌, ◌<◌, length}
use Rattle.std.specs.List.{All}
use Rattle.j_indices.specs.Numbers.{index_in}
use Rattle.j_indices.proofs.Indices.{GivesFirst}
use Rattle.j_indices.proofs.numbers.places_of.Given as goal

abbrev pub invariant-loop-index : goal.invariant-loop-index
invariant-loop-index g l = record {
  given : GivesFirst (λ x. index_in l.n (g.N.Whole.value x)) l.indices l.index-index l.out.items;
  many : length l.out.items ≡ l.index-index;
  within : All (λ k. k < l.n) l.out.items;
}
