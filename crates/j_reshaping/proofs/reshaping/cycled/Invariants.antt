use Rattle.std.proofs.Common.{◌≡◌}
use Rattle.std.specs.List.{flat_map, range_with_len}
use Rattle.j_reshaping.proofs.reshaping.cycled.Given as goal

abbrev pub invariant-loop : goal.invariant-loop
invariant-loop g l = l.out.items ≡ flat_map (λ k. l.run) (range_with_len 0 l.counter)
