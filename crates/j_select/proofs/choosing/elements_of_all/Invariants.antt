use Rattle.std.proofs.Common.{◌≡◌, map, take}
use Rattle.j_definitions.specs.Array.{Array}
use Rattle.j_select.proofs.choosing.elements_of_all.Given as goal

abbrev pub invariant-loop-content : goal.invariant-loop-content
invariant-loop-content g l = map (λ w. map g.T.Listed.atom w.items) l.lists.items ≡ map (λ (a : Array). a.atoms) (take l.content-index l.contents)
