use Rattle.std.proofs.Common.{◌≡◌, ◌<◌, ◌+◌, ◌-◌, ◌*◌, map}
use Rattle.std.specs.List.{All, range_with_len}
use Rattle.j_cuts_key.proofs.line_places.line.Given as goal

abbrev pub invariant-loop-row : goal.invariant-loop-row
invariant-loop-row l = record {
  places : l.places.items ≡ map (λ i. i * l.columns + (l.n - i)) (range_with_len l.first (l.row - l.first));
  within : All (λ k. k < l.rows * l.columns) l.places.items;
}
