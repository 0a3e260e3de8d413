use Rattle.std.proofs.Common.{◌≡◌, map, take, pos, Ok}
use Rattle.j_definitions.specs.Array.{number}
use Rattle.j_reshaping.specs.Axes.{counted}
use Rattle.j_reshaping.proofs.transposing.counted_bits.Given as goal

abbrev pub invariant-loop-b : goal.invariant-loop-b
invariant-loop-b l = map (λ b. counted l.fn.n (number (pos b))) (take l.b-index l.bits) ≡ map Ok l.axes.items
