use Rattle.j_search.proofs.Tables.{range_all}
use Rattle.j_search.proofs.numbered.range_of.Goals as goal

pub returns : goal.returns
returns g c = range_all g.T.Numbered.number c.args.items.now c.bounds-ends.result.0 c.bounds-ends.result.1 c.args.most c.range_between.result c.bounds-ends.ensures c.range_between.ensures
