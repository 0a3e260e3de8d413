use Rattle.std.proofs.Common.{◌≡◌, min, sum, map}
use Rattle.j_indices.specs.Numbers.{magnitudes}
use Rattle.j_indices.specs.Selecting.{counts_served}
use Rattle.j_indices.proofs.copying.total_served.Given as goal

abbrev pub invariant-loop-k : goal.invariant-loop-k
invariant-loop-k g l = l.total ≡ min (sum (counts_served l.axes (magnitudes (map g.N.Whole.value l.counts)) l.k)) 18446744073709551615
