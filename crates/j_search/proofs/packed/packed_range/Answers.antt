use Rattle.std.proofs.Common.{arith}
use Rattle.j_search.proofs.Tables.{range_few}
use Rattle.j_search.proofs.packed.packed_range.Goals as goal

pub returns : goal.returns
returns g c = range_few g.T.Numbered.number c.args.items.now 2199023255552 4194304 c.range_of.result (omega arith) c.range_of.ensures
