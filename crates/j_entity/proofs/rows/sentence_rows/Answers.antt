use Rattle.std.proofs.Common.{refl}
use Rattle.j_entity.proofs.rows.sentence_rows.Goals as goal

pub returns-clause-after_rank : goal.returns-clause-after_rank
returns-clause-after_rank c = refl

pub returns-clause-after_power : goal.returns-clause-after_power
returns-clause-after_power c = refl

pub returns-clause-at_the_start : goal.returns-clause-at_the_start
returns-clause-at_the_start c = refl

pub returns-clause-after_verb : goal.returns-clause-after_verb
returns-clause-after_verb c = refl

pub returns-clause-after_bond : goal.returns-clause-after_bond
returns-clause-after_bond c = refl

pub returns-clause-not_directly_after : goal.returns-clause-not_directly_after
returns-clause-not_directly_after c = refl

pub returns-clause-twice : goal.returns-clause-twice
returns-clause-twice c = refl
