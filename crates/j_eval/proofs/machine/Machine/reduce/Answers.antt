use Rattle.std.proofs.Common.{rules}
use Rattle.j_eval.specs.Applying.{nested}
use Rattle.j_eval.specs.Meaning.{reduced_by_places}
use Rattle.j_eval.specs.Stack.{stack_of}
use Rattle.j_eval.proofs.Patterns.{reduced_is}
use Rattle.j_eval.proofs.machine.Machine.reduce.Goals as goal

pub returns-in_err-e-clause-gives : goal.returns-in_err-e-clause-gives
unfolding reduced_by_places
returns-in_err-e-clause-gives c = rw (reduced_is (nested c.args.room) c.args.self.now.state c.args.row (stack_of c.args.stack.now.items)) (search rules)

pub returns-clause-gives : goal.returns-clause-gives
unfolding reduced_by_places
returns-clause-gives c = rw (reduced_is (nested c.args.room) c.args.self.now.state c.args.row (stack_of c.args.stack.now.items)) (search rules)
