use Rattle.std.proofs.Common.{◌≡◌, ◌<◌}
use Rattle.std.specs.List.{All}
use Rattle.j_search.specs.Graded.{run_order, IsInOrder}
use Rattle.j_search.proofs.Ranks.{order_counted, ok_then}
use Rattle.j_search.proofs.order.graded.Goals as goal

pub returns-clause-order : goal.returns-clause-order
returns-clause-order g c =
    ok_then c.in_order.result (IsInOrder g.T.Ord.cmp c.args.direction c.args.size c.args.count c.args.all.now) (λ ks. ks ≡ run_order g.T.Ord.cmp c.args.direction c.args.size c.args.count c.args.all.now)
    (λ ks a. order_counted g.T.Ord.cmp g.met.T.Ord.total c.args.size c.args.count c.args.all.now c.args.direction ks a) c.in_order.ensures

pub returns-clause-within : goal.returns-clause-within
returns-clause-within g c =
    ok_then c.in_order.result (IsInOrder g.T.Ord.cmp c.args.direction c.args.size c.args.count c.args.all.now) (All (λ k. k < c.args.count)) (λ ks a. a.within) c.in_order.ensures
