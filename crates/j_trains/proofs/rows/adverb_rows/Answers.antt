use Rattle.std.proofs.Common.{refl}
use Rattle.j_trains.proofs.rows.adverb_rows.Goals as goal

pub returns-clause-passive : goal.returns-clause-passive
returns-clause-passive c = refl

pub returns-clause-passive_twice : goal.returns-clause-passive_twice
returns-clause-passive_twice c = refl

pub returns-clause-noun_passive : goal.returns-clause-noun_passive
returns-clause-noun_passive c = refl

pub returns-clause-ranks_passive : goal.returns-clause-ranks_passive
returns-clause-ranks_passive c = refl

pub returns-clause-passive_too_high : goal.returns-clause-passive_too_high
returns-clause-passive_too_high c = refl

pub returns-clause-insert : goal.returns-clause-insert
returns-clause-insert c = refl

pub returns-clause-noun_insert : goal.returns-clause-noun_insert
returns-clause-noun_insert c = refl

pub returns-clause-prefix : goal.returns-clause-prefix
returns-clause-prefix c = refl

pub returns-clause-noun_prefix : goal.returns-clause-noun_prefix
returns-clause-noun_prefix c = refl

pub returns-clause-suffix : goal.returns-clause-suffix
returns-clause-suffix c = refl

pub returns-clause-noun_suffix : goal.returns-clause-noun_suffix
returns-clause-noun_suffix c = refl

pub returns-clause-oblique : goal.returns-clause-oblique
returns-clause-oblique c = refl

pub returns-clause-noun_oblique : goal.returns-clause-noun_oblique
returns-clause-noun_oblique c = refl

pub returns-clause-amend : goal.returns-clause-amend
returns-clause-amend c = refl

pub returns-clause-amend_of_verb : goal.returns-clause-amend_of_verb
returns-clause-amend_of_verb c = refl

pub returns-clause-amend_of_ranks : goal.returns-clause-amend_of_ranks
returns-clause-amend_of_ranks c = refl

pub returns-clause-product : goal.returns-clause-product
returns-clause-product c = refl

pub returns-clause-adverse : goal.returns-clause-adverse
returns-clause-adverse c = refl

pub returns-clause-monadic : goal.returns-clause-monadic
returns-clause-monadic c = refl
