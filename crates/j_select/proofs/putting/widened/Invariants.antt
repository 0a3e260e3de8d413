use Rattle.std.proofs.Common.{◌≡◌, map, take, pos}
use Rattle.j_definitions.specs.Array.{number}
use Rattle.j_select.proofs.putting.widened.Given as goal

abbrev pub invariant-loop-b : goal.invariant-loop-b
invariant-loop-b l = map number l.numbers.items ≡ map (λ b. number (pos b)) (take l.b-index l.bits)
