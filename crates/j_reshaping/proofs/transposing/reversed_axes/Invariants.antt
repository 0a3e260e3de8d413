use Rattle.std.proofs.Common.{◌≡◌, ◌-◌, map}
use Rattle.std.specs.List.{range_with_len}
use Rattle.j_reshaping.proofs.transposing.reversed_axes.Given as goal

abbrev pub invariant-loop-k : goal.invariant-loop-k
invariant-loop-k l = l.order ≡ map (λ j. l.n - 1 - j) (range_with_len 0 l.k)
