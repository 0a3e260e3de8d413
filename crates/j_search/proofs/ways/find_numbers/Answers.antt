use Rattle.std.proofs.Common.{ap, sym}
use Rattle.j_search.specs.Sought.{run_places}
use Rattle.j_search.proofs.Runs.{ok_places}
use Rattle.j_search.proofs.ways.find_numbers.Goals as goal

pub returns : goal.returns
returns g c =
    ok_places c.find_each_in_order.result (ap (λ e. run_places e c.args.side c.args.sizes.size c.args.sizes.items c.args.sizes.cells c.args.items.now c.args.cells.now) (sym g.met.T.Numbered.alike)) c.find_each_in_order.ensures
