use Rattle.std.proofs.Common.{pos}
use Rattle.j_definitions.specs.Array.{number}
use Rattle.j_indices.proofs.Indices.{GivesFirst}
use Rattle.j_cuts_key.specs.Cuts.{mark_in}
use Rattle.j_cuts_key.proofs.frets.marks_of_wholes.Given as goal

abbrev pub invariant-loop-n : goal.invariant-loop-n
invariant-loop-n l = GivesFirst (λ x. mark_in (number x)) l.numbers l.n-index l.marks.items
