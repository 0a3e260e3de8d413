use Rattle.std.proofs.Common.{◌≡◌, min, map, take, sum}
use Rattle.std.specs.List.{All}
use Rattle.j_indices.specs.Numbers.{magnitudes}
use Rattle.j_indices.proofs.Counts.{IsCount}
use Rattle.j_indices.proofs.numbers.total_of.Given as goal

abbrev pub invariant-loop-n : goal.invariant-loop-n
invariant-loop-n g l = record {
  counted : All (λ x. IsCount (g.N.Whole.value x)) (take l.n-index l.counts);
  total : l.total ≡ min (sum (magnitudes (map g.N.Whole.value (take l.n-index l.counts)))) 18446744073709551615;
}
