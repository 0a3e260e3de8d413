use Rattle.j_names.proofs.Targets.{refused_target}
use Rattle.j_names.proofs.names.Names.target.Goals as goal

pub returns-in-Err-clause-err : goal.returns-in-Err-clause-err
returns-in-Err-clause-err c = refused_target c.args.name.now.place c.args.by_local c.args.self.now c.args.name.now.base c.in-Err.refusal c.in-Err.ensures.err c.in-Err.ensures.simple

pub returns-in-Err-clause-simple : goal.returns-in-Err-clause-simple
returns-in-Err-clause-simple c here t e = c.in-Err.ensures.simple here
