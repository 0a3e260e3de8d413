use Rattle.std.proofs.Common.{◌≡◌, map, drop}
use Rattle.j_select.proofs.Listings.{lists_from}
use Rattle.j_select.proofs.choosing.append_only.Given as goal

abbrev pub invariant-loop-list : goal.invariant-loop-list
invariant-loop-list g l =
    (l.count ≡ l.list-index) × (lists_from g.T.Listed.kind g.T.Listed.atom l.front.items (map (λ v. v.items) (drop l.list-index l.rest)) ≡ lists_from g.T.Listed.kind g.T.Listed.atom l.fn.front.items (map (λ v. v.items) l.rest))
