use Rattle.std.proofs.Common.{◌≡◌, take}
use Rattle.std.specs.List.{flat_map}
use Rattle.j_definitions.specs.Array.{Array}
use Rattle.j_indices.proofs.axes.frame_of.Given as goal

abbrev pub invariant-loop-noun : goal.invariant-loop-noun
invariant-loop-noun l = l.shape ≡ flat_map (λ (a : Array). a.shape) (take l.noun-index l.nouns)
