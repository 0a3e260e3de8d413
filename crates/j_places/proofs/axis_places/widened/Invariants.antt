use Rattle.std.proofs.Common.{◌≡◌, map, take, pos}
use Rattle.j_places.proofs.axis_places.widened.Given as goal

abbrev pub invariant-loop-b : goal.invariant-loop-b
invariant-loop-b l = l.numbers.items ≡ map (λ b. pos b) (take l.b-index l.bits)
