use Rattle.std.proofs.Common.{refl}
use Rattle.j_trains.proofs.rows.cut_rows.Goals as goal

pub returns-clause-one : goal.returns-clause-one
returns-clause-one c = refl

pub returns-clause-minus_one : goal.returns-clause-minus_one
returns-clause-minus_one c = refl

pub returns-clause-two : goal.returns-clause-two
returns-clause-two c = refl

pub returns-clause-minus_two : goal.returns-clause-minus_two
returns-clause-minus_two c = refl

pub returns-clause-zero : goal.returns-clause-zero
returns-clause-zero c = refl

pub returns-clause-three : goal.returns-clause-three
returns-clause-three c = refl

pub returns-clause-minus_three : goal.returns-clause-minus_three
returns-clause-minus_three c = refl

pub returns-clause-four : goal.returns-clause-four
returns-clause-four c = refl

pub returns-clause-minus_four : goal.returns-clause-minus_four
returns-clause-minus_four c = refl

pub returns-clause-list_of_one : goal.returns-clause-list_of_one
returns-clause-list_of_one c = refl

pub returns-clause-list_of_zero : goal.returns-clause-list_of_zero
returns-clause-list_of_zero c = refl

pub returns-clause-no_numbers : goal.returns-clause-no_numbers
returns-clause-no_numbers c = refl

pub returns-clause-character : goal.returns-clause-character
returns-clause-character c = refl

pub returns-clause-boxes : goal.returns-clause-boxes
returns-clause-boxes c = refl

pub returns-clause-of_a_verb : goal.returns-clause-of_a_verb
returns-clause-of_a_verb c = refl

pub returns-clause-noun_left : goal.returns-clause-noun_left
returns-clause-noun_left c = refl

pub returns-clause-noun_left_of_four : goal.returns-clause-noun_left_of_four
returns-clause-noun_left_of_four c = refl

pub returns-clause-noun_left_of_verb : goal.returns-clause-noun_left_of_verb
returns-clause-noun_left_of_verb c = refl

pub returns-clause-too_high : goal.returns-clause-too_high
returns-clause-too_high c = refl

pub returns-clause-fault_before_height : goal.returns-clause-fault_before_height
returns-clause-fault_before_height c = refl

pub returns-clause-applied : goal.returns-clause-applied
returns-clause-applied c = refl
