use Rattle.std.proofs.Common.{◌≡◌, map, take, length}
use Rattle.std.specs.List.{All}
use Rattle.j_definitions.specs.Array.{Array, IsNoun}
use Rattle.j_select.proofs.choosing.count_choices.Given as goal

abbrev pub invariant-loop-content : goal.invariant-loop-content
invariant-loop-content l =
    (l.sizes.items ≡ map (λ (a : Array). length a.atoms) (take l.content-index l.contents)) × All IsNoun (take l.content-index l.contents)
