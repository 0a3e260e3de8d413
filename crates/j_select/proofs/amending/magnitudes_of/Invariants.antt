use Rattle.std.proofs.Common.{◌≡◌, map, take}
use Rattle.j_indices.specs.Numbers.{magnitudes}
use Rattle.j_select.proofs.amending.magnitudes_of.Given as goal

abbrev pub invariant-loop-n : goal.invariant-loop-n
invariant-loop-n g l = l.out.items ≡ magnitudes (map g.N.Whole.value (take l.n-index l.numbers))
