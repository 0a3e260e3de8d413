use Rattle.std.proofs.Common.{◌≡◌, map, take, pos, Ok}
use Rattle.j_definitions.specs.Array.{number}
use Rattle.j_reshaping.specs.Reshaping.{length_of}
use Rattle.j_reshaping.proofs.reshaping.bit_lengths.Given as goal

abbrev pub invariant-loop-b : goal.invariant-loop-b
invariant-loop-b l = map (λ b. length_of (number (pos b))) (take l.b-index l.bits) ≡ map Ok l.lengths.items
