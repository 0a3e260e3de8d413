use Rattle.std.proofs.Common.{◌≡◌, map, take}
use Rattle.j_definitions.specs.Array.{boxed}
use Rattle.j_definitions.specs.declared.Kind.TheVariants.{Boxed}
use Rattle.j_rank.specs.Assembly.{atoms_of_all}
use Rattle.j_rank.proofs.gathering.gather_nouns.Given as goal

abbrev pub invariant-loop-r : goal.invariant-loop-r
invariant-loop-r l = map boxed l.out.items ≡ atoms_of_all Boxed l.common (take l.r-index l.results)
