use Rattle.std.proofs.Common.{refl}
use Rattle.j_trains.proofs.rows.composition_rows.Goals as goal

pub returns-clause-atop : goal.returns-clause-atop
returns-clause-atop c = refl

pub returns-clause-noun_left_of_atop : goal.returns-clause-noun_left_of_atop
returns-clause-noun_left_of_atop c = refl

pub returns-clause-noun_right_of_atop : goal.returns-clause-noun_right_of_atop
returns-clause-noun_right_of_atop c = refl

pub returns-clause-ranks_right_of_atop : goal.returns-clause-ranks_right_of_atop
returns-clause-ranks_right_of_atop c = refl

pub returns-clause-atop_too_high : goal.returns-clause-atop_too_high
returns-clause-atop_too_high c = refl

pub returns-clause-at : goal.returns-clause-at
returns-clause-at c = refl

pub returns-clause-noun_left_of_at : goal.returns-clause-noun_left_of_at
returns-clause-noun_left_of_at c = refl

pub returns-clause-noun_right_of_at : goal.returns-clause-noun_right_of_at
returns-clause-noun_right_of_at c = refl

pub returns-clause-ranks_right_of_at : goal.returns-clause-ranks_right_of_at
returns-clause-ranks_right_of_at c = refl

pub returns-clause-at_too_high : goal.returns-clause-at_too_high
returns-clause-at_too_high c = refl

pub returns-clause-appose : goal.returns-clause-appose
returns-clause-appose c = refl

pub returns-clause-noun_left_of_appose : goal.returns-clause-noun_left_of_appose
returns-clause-noun_left_of_appose c = refl

pub returns-clause-noun_right_of_appose : goal.returns-clause-noun_right_of_appose
returns-clause-noun_right_of_appose c = refl

pub returns-clause-ranks_right_of_appose : goal.returns-clause-ranks_right_of_appose
returns-clause-ranks_right_of_appose c = refl

pub returns-clause-appose_too_high : goal.returns-clause-appose_too_high
returns-clause-appose_too_high c = refl

pub returns-clause-bond : goal.returns-clause-bond
returns-clause-bond c = refl

pub returns-clause-noun_left_of_bond : goal.returns-clause-noun_left_of_bond
returns-clause-noun_left_of_bond c = refl

pub returns-clause-noun_right_of_bond : goal.returns-clause-noun_right_of_bond
returns-clause-noun_right_of_bond c = refl

pub returns-clause-nouns_of_bond : goal.returns-clause-nouns_of_bond
returns-clause-nouns_of_bond c = refl

pub returns-clause-ranks_right_of_bond : goal.returns-clause-ranks_right_of_bond
returns-clause-ranks_right_of_bond c = refl

pub returns-clause-ranks_left_of_bond : goal.returns-clause-ranks_left_of_bond
returns-clause-ranks_left_of_bond c = refl

pub returns-clause-bond_too_high : goal.returns-clause-bond_too_high
returns-clause-bond_too_high c = refl

pub returns-clause-applied : goal.returns-clause-applied
returns-clause-applied c = refl
