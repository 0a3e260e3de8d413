use Rattle.std.proofs.Common.{◌≡◌, ◌++◌, [], ◌∷◌}
use Rattle.j_reshaping.specs.Axes.{places}
use Rattle.j_reshaping.specs.Steps.{elements_at}
use Rattle.j_reshaping.proofs.transposing.append_steps.Given as goal

abbrev pub invariant-loop-i : goal.invariant-loop-i
invariant-loop-i g l = l.out.items ≡ l.fn.out.items ++ elements_at l.run (places l.start (l.i ∷ []) (l.step ∷ []))
