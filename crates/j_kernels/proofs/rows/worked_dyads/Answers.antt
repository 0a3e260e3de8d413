use Rattle.j_kernels.proofs.MultipleLaws.{multiple_of_minus_one, multiple_of_one}
use Rattle.j_kernels.proofs.rows.worked_dyads.Goals as goal

pub returns-clause-multiple_beyond : goal.returns-clause-multiple_beyond
returns-clause-multiple_beyond c = multiple_of_minus_one 9223372036854775807

pub returns-clause-multiple_of_least : goal.returns-clause-multiple_of_least
returns-clause-multiple_of_least c = multiple_of_one 9223372036854775807
