use Rattle.std.proofs.Common.{arith, ◌+◌}
use Rattle.j_noun.proofs.Passed.{block_passed}
use Rattle.j_noun.proofs.blocks.run_at.Goals as goal

pub returns-clause-rest : goal.returns-clause-rest
returns-clause-rest c = λ e. block_passed c.args.from (c.args.from + 1024) c.args.x.now c.args.y.now (omega arith) c.requires.first c.requires.second e
