use Rattle.std.proofs.Common.{◌≡◌, map}
use Rattle.std.specs.List.{range_with_len}
use Rattle.j_definitions.specs.Array.{number}
use Rattle.j_indices.specs.Counting.{step_of}
use Rattle.j_indices.proofs.counting.steps_listed.Given as goal

abbrev pub invariant-loop-k : goal.invariant-loop-k
invariant-loop-k l = map number l.out.items ≡ map (λ k. number (step_of l.n k)) (range_with_len 0 l.k)
