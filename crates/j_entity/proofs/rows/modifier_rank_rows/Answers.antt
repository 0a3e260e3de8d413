use Rattle.std.proofs.Common.{refl}
use Rattle.j_entity.proofs.rows.modifier_rank_rows.Goals as goal

pub returns-clause-insert : goal.returns-clause-insert
returns-clause-insert c = refl

pub returns-clause-prefix : goal.returns-clause-prefix
returns-clause-prefix c = refl

pub returns-clause-suffix : goal.returns-clause-suffix
returns-clause-suffix c = refl

pub returns-clause-oblique : goal.returns-clause-oblique
returns-clause-oblique c = refl

pub returns-clause-cut : goal.returns-clause-cut
returns-clause-cut c = refl

pub returns-clause-passive : goal.returns-clause-passive
returns-clause-passive c = refl

pub returns-clause-amend : goal.returns-clause-amend
returns-clause-amend c = refl

pub returns-clause-number : goal.returns-clause-number
returns-clause-number c = refl

pub returns-clause-three_numbers : goal.returns-clause-three_numbers
returns-clause-three_numbers c = refl

pub returns-clause-noun_left : goal.returns-clause-noun_left
returns-clause-noun_left c = refl

pub returns-clause-of_a_verb : goal.returns-clause-of_a_verb
returns-clause-of_a_verb c = refl

pub returns-clause-atop : goal.returns-clause-atop
returns-clause-atop c = refl

pub returns-clause-at : goal.returns-clause-at
returns-clause-at c = refl

pub returns-clause-bond_of_verbs : goal.returns-clause-bond_of_verbs
returns-clause-bond_of_verbs c = refl

pub returns-clause-noun_left_of_bond : goal.returns-clause-noun_left_of_bond
returns-clause-noun_left_of_bond c = refl

pub returns-clause-noun_right_of_bond : goal.returns-clause-noun_right_of_bond
returns-clause-noun_right_of_bond c = refl

pub returns-clause-appose : goal.returns-clause-appose
returns-clause-appose c = refl

pub returns-clause-under : goal.returns-clause-under
returns-clause-under c = refl

pub returns-clause-power : goal.returns-clause-power
returns-clause-power c = refl

pub returns-clause-power_of_a_verb : goal.returns-clause-power_of_a_verb
returns-clause-power_of_a_verb c = refl

pub returns-clause-product : goal.returns-clause-product
returns-clause-product c = refl

pub returns-clause-adverse : goal.returns-clause-adverse
returns-clause-adverse c = refl

pub returns-clause-monadic : goal.returns-clause-monadic
returns-clause-monadic c = refl
