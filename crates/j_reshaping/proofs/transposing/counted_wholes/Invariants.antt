use Rattle.std.proofs.Common.{◌≡◌, map, take, Ok}
use Rattle.j_definitions.specs.Array.{number}
use Rattle.j_reshaping.specs.Axes.{counted}
use Rattle.j_reshaping.proofs.transposing.counted_wholes.Given as goal

abbrev pub invariant-loop-z : goal.invariant-loop-z
invariant-loop-z l = map (λ z. counted l.n (number z)) (take l.z-index l.wholes) ≡ map Ok l.axes.items
