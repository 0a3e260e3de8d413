use Rattle.std.proofs.Common.{◌≡◌, ◌++◌, ◌∷◌, [], length, map, take}
use Rattle.std.specs.List.{flat_map}
use Rattle.j_select.proofs.Listings.{lists_from}
use Rattle.j_select.proofs.choosing.+append_choices.Given as goal

abbrev pub decreases-append_choices : goal.decreases-append_choices
decreases-append_choices g l = length l.rest.now

abbrev pub invariant-loop-x : goal.invariant-loop-x
invariant-loop-x g l = l.out.items ≡ l.fn.out.items ++ flat_map (λ x. lists_from g.T.Listed.kind g.T.Listed.atom (l.begun ++ x ∷ []) (map (λ v. v.items) l.inner)) (take l.x-index l.elements)
