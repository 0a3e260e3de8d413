use Rattle.std.proofs.Common.{refl}
use Rattle.j_trains.proofs.rows.rank_rows.Goals as goal

pub returns-clause-number : goal.returns-clause-number
returns-clause-number c = refl

pub returns-clause-two_numbers : goal.returns-clause-two_numbers
returns-clause-two_numbers c = refl

pub returns-clause-three_numbers : goal.returns-clause-three_numbers
returns-clause-three_numbers c = refl

pub returns-clause-negative : goal.returns-clause-negative
returns-clause-negative c = refl

pub returns-clause-infinite : goal.returns-clause-infinite
returns-clause-infinite c = refl

pub returns-clause-infinite_and_numbers : goal.returns-clause-infinite_and_numbers
returns-clause-infinite_and_numbers c = refl

pub returns-clause-of_a_verb : goal.returns-clause-of_a_verb
returns-clause-of_a_verb c = refl

pub returns-clause-noun_left : goal.returns-clause-noun_left
returns-clause-noun_left c = refl

pub returns-clause-noun_left_of_infinite : goal.returns-clause-noun_left_of_infinite
returns-clause-noun_left_of_infinite c = refl

pub returns-clause-noun_left_of_verb : goal.returns-clause-noun_left_of_verb
returns-clause-noun_left_of_verb c = refl

pub returns-clause-ranks_left : goal.returns-clause-ranks_left
returns-clause-ranks_left c = refl

pub returns-clause-characters : goal.returns-clause-characters
returns-clause-characters c = refl

pub returns-clause-boxes : goal.returns-clause-boxes
returns-clause-boxes c = refl

pub returns-clause-table : goal.returns-clause-table
returns-clause-table c = refl

pub returns-clause-empty_table : goal.returns-clause-empty_table
returns-clause-empty_table c = refl

pub returns-clause-kind_before_rank : goal.returns-clause-kind_before_rank
returns-clause-kind_before_rank c = refl

pub returns-clause-none : goal.returns-clause-none
returns-clause-none c = refl

pub returns-clause-no_characters : goal.returns-clause-no_characters
returns-clause-no_characters c = refl

pub returns-clause-four : goal.returns-clause-four
returns-clause-four c = refl

pub returns-clause-infinite_and_three : goal.returns-clause-infinite_and_three
returns-clause-infinite_and_three c = refl

pub returns-clause-four_left_of_noun : goal.returns-clause-four_left_of_noun
returns-clause-four_left_of_noun c = refl

pub returns-clause-too_high : goal.returns-clause-too_high
returns-clause-too_high c = refl

pub returns-clause-fault_before_height : goal.returns-clause-fault_before_height
returns-clause-fault_before_height c = refl
