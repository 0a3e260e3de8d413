use Rattle.std.proofs.Common.{◌≡◌, map, take}
use Rattle.j_definitions.specs.Array.{byte}
use Rattle.j_definitions.specs.declared.Kind.TheVariants.{Character}
use Rattle.j_rank.specs.Assembly.{atoms_of_all}
use Rattle.j_rank.proofs.gathering.gather_bytes.Given as goal

abbrev pub invariant-loop-r : goal.invariant-loop-r
invariant-loop-r l = map byte l.out.items ≡ atoms_of_all Character l.common (take l.r-index l.results)
