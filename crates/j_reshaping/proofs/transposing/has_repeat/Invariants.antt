use Rattle.std.proofs.Common.{◌≡◌, drop}
use Rattle.j_reshaping.specs.Axes.{repeats}
use Rattle.j_reshaping.proofs.transposing.has_repeat.Given as goal

abbrev pub invariant-loop-k : goal.invariant-loop-k
invariant-loop-k l = repeats (drop l.k l.numbers) ≡ repeats l.numbers
