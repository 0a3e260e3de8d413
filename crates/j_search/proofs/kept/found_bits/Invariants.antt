use Rattle.std.proofs.Common.{◌≡◌, take}
use Rattle.j_search.specs.Kept.{found_bits}
use Rattle.j_search.proofs.kept.found_bits.Given as goal

abbrev pub invariant-loop-place : goal.invariant-loop-place
invariant-loop-place l = l.bits.items ≡ found_bits l.n (take l.place-index l.places)
