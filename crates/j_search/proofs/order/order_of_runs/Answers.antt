use Rattle.std.proofs.Common.{ap, sym, subst}
use Rattle.j_search.specs.Graded.{places_with, IsInOrder}
use Rattle.j_search.proofs.Ranks.{up_in_order, down_in_order, ok_same, ok_holds}
use Rattle.j_search.proofs.order.order_of_runs.Goals as goal

pub returns-in_ok-keys-in-Up : goal.returns-in_ok-keys-in-Up
returns-in_ok-keys-in-Up g c =
    ok_holds c.places_with.result (IsInOrder g.T.Ord.cmp c.args.direction c.args.size c.args.count c.args.all.now)
    (subst (λ d. IsInOrder g.T.Ord.cmp d c.args.size c.args.count c.args.all.now (places_with c.sorted-ordered.result.items)) (sym c.in-Up.is)
    (up_in_order g.T.Ord.cmp g.met.T.Ord.total c.args.size c.args.count c.args.all.now c.in_ok-keys-in-Up.keys.items c.sorted-ordered.result.items c.in_ok-keys-in-Up.ensures.places c.in_ok-keys-in-Up.ensures.runs c.sorted-ordered.ensures.permutation c.sorted-ordered.ensures.sorted))
    (ok_same c.places_with.result (ap places_with c.deref.ensures.value) c.places_with.ensures)

pub returns-in_ok-back-in-Down : goal.returns-in_ok-back-in-Down
returns-in_ok-back-in-Down g c =
    ok_holds c.places_with-in-Down.result (IsInOrder g.T.Ord.cmp c.args.direction c.args.size c.args.count c.args.all.now)
    (subst (λ d. IsInOrder g.T.Ord.cmp d c.args.size c.args.count c.args.all.now (places_with c.sorted-turned.result.items)) (sym c.in-Down.is)
    (down_in_order g.T.Ord.cmp g.met.T.Ord.total c.args.size c.args.count c.args.all.now c.in_ok-back-in-Down.back.items c.sorted-turned.result.items c.in_ok-back-in-Down.ensures.places c.in_ok-back-in-Down.ensures.runs c.sorted-turned.ensures.permutation c.sorted-turned.ensures.sorted))
    (ok_same c.places_with-in-Down.result (ap places_with c.deref-in-Down.ensures.value) c.places_with-in-Down.ensures)
