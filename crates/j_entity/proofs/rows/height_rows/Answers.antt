use Rattle.std.proofs.Common.{refl}
use Rattle.j_entity.proofs.rows.height_rows.Goals as goal

pub returns-clause-primitive_alone : goal.returns-clause-primitive_alone
returns-clause-primitive_alone c = refl

pub returns-clause-fork_of_words : goal.returns-clause-fork_of_words
returns-clause-fork_of_words c = refl

pub returns-clause-hook_in_hook : goal.returns-clause-hook_in_hook
returns-clause-hook_in_hook c = refl

pub returns-clause-noun_of_fork : goal.returns-clause-noun_of_fork
returns-clause-noun_of_fork c n = refl

pub returns-clause-two_words : goal.returns-clause-two_words
returns-clause-two_words c = refl

pub returns-clause-noun_operand : goal.returns-clause-noun_operand
returns-clause-noun_operand c = refl

pub returns-clause-body_alone : goal.returns-clause-body_alone
returns-clause-body_alone c b = refl

pub returns-clause-body_on_hook : goal.returns-clause-body_on_hook
returns-clause-body_on_hook c b = refl

pub returns-clause-operator_body : goal.returns-clause-operator_body
returns-clause-operator_body c b = refl

pub returns-clause-operators : goal.returns-clause-operators
returns-clause-operators c = refl
