use Rattle.std.proofs.Common.{◌≡◌, map, take, Ok}
use Rattle.j_definitions.specs.Array.{number}
use Rattle.j_reshaping.specs.Reshaping.{length_of}
use Rattle.j_reshaping.proofs.reshaping.whole_lengths.Given as goal

abbrev pub invariant-loop-z : goal.invariant-loop-z
invariant-loop-z l = map (λ z. length_of (number z)) (take l.z-index l.numbers) ≡ map Ok l.lengths.items
