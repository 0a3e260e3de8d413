use Rattle.std.proofs.Common.{◌≡◌, map}
use Rattle.j_indices.specs.Numbers.{magnitudes}
use Rattle.j_indices.specs.Selecting.{serving, pairs_copied}
use Rattle.j_indices.proofs.copying.places_copied.Given as goal

abbrev pub invariant-loop-k : goal.invariant-loop-k
invariant-loop-k g l = l.out.items ≡ map (serving l.items) (pairs_copied l.axes (magnitudes (map g.N.Whole.value l.counts)) l.k)
