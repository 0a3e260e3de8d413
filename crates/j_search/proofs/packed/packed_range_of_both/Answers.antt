use Rattle.std.proofs.Common.{arith}
use Rattle.j_search.proofs.Tables.{range_both_few}
use Rattle.j_search.proofs.packed.packed_range_of_both.Goals as goal

pub returns : goal.returns
returns g c = range_both_few g.T.Numbered.number c.args.items.now c.args.cells.now 2199023255552 4194304 c.range_of_both.result (omega arith) (omega arith) c.range_of_both.ensures
