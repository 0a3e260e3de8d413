use Rattle.std.proofs.Common.{map}
use Rattle.j_definitions.specs.Array.{Array, boxed}
use Rattle.j_select.specs.Amending.{outline_at}
use Rattle.j_indices.proofs.Indices.{GivesFirst}
use Rattle.j_select.proofs.Reached.{alone}
use Rattle.j_select.proofs.reaching.outlines_of.Given as goal

abbrev pub invariant-loop-noun : goal.invariant-loop-noun
invariant-loop-noun l = GivesFirst (λ (a : Array). outline_at l.axes (boxed a)) l.held l.noun-index (map alone l.blanks.items)
