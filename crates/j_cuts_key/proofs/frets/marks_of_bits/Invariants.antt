use Rattle.std.proofs.Common.{pos}
use Rattle.j_definitions.specs.Array.{number}
use Rattle.j_indices.proofs.Indices.{GivesFirst}
use Rattle.j_cuts_key.specs.Cuts.{mark_in}
use Rattle.j_cuts_key.proofs.frets.marks_of_bits.Given as goal

abbrev pub invariant-loop-b : goal.invariant-loop-b
invariant-loop-b l = GivesFirst (λ x. mark_in (number (pos x))) l.bits l.b-index l.marks.items
