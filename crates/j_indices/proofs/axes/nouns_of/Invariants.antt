use Rattle.std.proofs.Common.{◌≡◌, map, take}
use Rattle.j_definitions.specs.Array.{number, atom_array}
use Rattle.j_definitions.specs.declared.Kind.TheVariants.{Number}
use Rattle.j_indices.proofs.axes.nouns_of.Given as goal

abbrev pub invariant-loop-z : goal.invariant-loop-z
invariant-loop-z g l = l.nouns.items ≡ map (λ z. atom_array Number (number z)) (map g.N.Whole.value (take l.z-index l.numbers))
