use Rattle.std.proofs.Common.{arith}
use Rattle.j_search.proofs.Tables.{range_within}
use Rattle.j_search.proofs.tabled.narrow_range.Goals as goal

pub returns : goal.returns
returns g c = range_within g.T.Numbered.number c.args.items.now _ 9223372036854775808 c.range_of.result (omega (arith, c.requires)) c.range_of.ensures
