use Rattle.std.proofs.Common.{refl}
use Rattle.j_trains.proofs.rows.power_rows.Goals as goal

pub returns-clause-number : goal.returns-clause-number
returns-clause-number c = refl

pub returns-clause-zero : goal.returns-clause-zero
returns-clause-zero c = refl

pub returns-clause-infinite : goal.returns-clause-infinite
returns-clause-infinite c = refl

pub returns-clause-of_a_verb : goal.returns-clause-of_a_verb
returns-clause-of_a_verb c = refl

pub returns-clause-negative : goal.returns-clause-negative
returns-clause-negative c = refl

pub returns-clause-character : goal.returns-clause-character
returns-clause-character c = refl

pub returns-clause-boxes : goal.returns-clause-boxes
returns-clause-boxes c = refl

pub returns-clause-kind_before_rank : goal.returns-clause-kind_before_rank
returns-clause-kind_before_rank c = refl

pub returns-clause-list_of_one : goal.returns-clause-list_of_one
returns-clause-list_of_one c = refl

pub returns-clause-negative_list : goal.returns-clause-negative_list
returns-clause-negative_list c = refl

pub returns-clause-no_characters : goal.returns-clause-no_characters
returns-clause-no_characters c = refl

pub returns-clause-infinite_and_number : goal.returns-clause-infinite_and_number
returns-clause-infinite_and_number c = refl

pub returns-clause-noun_left : goal.returns-clause-noun_left
returns-clause-noun_left c = refl

pub returns-clause-noun_left_of_verb : goal.returns-clause-noun_left_of_verb
returns-clause-noun_left_of_verb c = refl

pub returns-clause-noun_left_of_infinite : goal.returns-clause-noun_left_of_infinite
returns-clause-noun_left_of_infinite c = refl

pub returns-clause-ranks_left : goal.returns-clause-ranks_left
returns-clause-ranks_left c = refl

pub returns-clause-too_high : goal.returns-clause-too_high
returns-clause-too_high c = refl
