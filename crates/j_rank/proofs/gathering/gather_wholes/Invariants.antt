use Rattle.std.proofs.Common.{◌≡◌, map, take}
use Rattle.j_definitions.specs.Array.{number}
use Rattle.j_definitions.specs.declared.Kind.TheVariants.{Number}
use Rattle.j_rank.specs.Assembly.{atoms_of_all}
use Rattle.j_rank.proofs.gathering.gather_wholes.Given as goal

abbrev pub invariant-loop-r : goal.invariant-loop-r
invariant-loop-r l = map number l.out.items ≡ atoms_of_all Number l.common (take l.r-index l.results)
