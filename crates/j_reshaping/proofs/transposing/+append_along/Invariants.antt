use Rattle.std.proofs.Common.{◌≡◌, ◌++◌, ◌∷◌, length}
use Rattle.j_reshaping.specs.Axes.{places}
use Rattle.j_reshaping.specs.Steps.{elements_at}
use Rattle.j_reshaping.proofs.transposing.+append_along.Given as goal

abbrev pub decreases-append_along : goal.decreases-append_along
decreases-append_along g l = length l.lengths.now

abbrev pub invariant-loop-i : goal.invariant-loop-i
invariant-loop-i g l = l.out.items ≡ l.fn.out.items ++ elements_at l.run (places l.start (l.i ∷ l.inner_lengths) (l.d ∷ l.inner_steps))
