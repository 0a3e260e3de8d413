use Rattle.std.proofs.Common.{sym}
use Rattle.j_rank.proofs.Joining.{all_join}
use Rattle.j_rank.proofs.kinds.joined_kind.Goals as goal

pub returns-then-are_of-clause-each : goal.returns-then-are_of-clause-each
returns-then-are_of-clause-each c = all_join c.first_kind-kind.result c.args.results.now (sym c.if-are_of.ensures)
