use Rattle.std.proofs.Common.{refl}
use Rattle.j_trains.proofs.rows.under_rows.Goals as goal

pub returns-clause-box_and_open : goal.returns-clause-box_and_open
returns-clause-box_and_open c = refl

pub returns-clause-open_and_box : goal.returns-clause-open_and_box
returns-clause-open_and_box c = refl

pub returns-clause-one_more : goal.returns-clause-one_more
returns-clause-one_more c = refl

pub returns-clause-one_less : goal.returns-clause-one_less
returns-clause-one_less c = refl

pub returns-clause-double : goal.returns-clause-double
returns-clause-double c = refl

pub returns-clause-halve : goal.returns-clause-halve
returns-clause-halve c = refl

pub returns-clause-of_themselves : goal.returns-clause-of_themselves
returns-clause-of_themselves c = refl

pub returns-clause-none : goal.returns-clause-none
returns-clause-none c = refl

pub returns-clause-name : goal.returns-clause-name
returns-clause-name c = λ n r. refl

pub returns-clause-train : goal.returns-clause-train
returns-clause-train c = refl

pub returns-clause-modified : goal.returns-clause-modified
returns-clause-modified c = refl

pub returns-clause-of_verbs : goal.returns-clause-of_verbs
returns-clause-of_verbs c = refl

pub returns-clause-no_obverse : goal.returns-clause-no_obverse
returns-clause-no_obverse c = refl

pub returns-clause-name_of_verb : goal.returns-clause-name_of_verb
returns-clause-name_of_verb c = λ n r. refl

pub returns-clause-noun_left : goal.returns-clause-noun_left
returns-clause-noun_left c = refl

pub returns-clause-noun_right : goal.returns-clause-noun_right
returns-clause-noun_right c = refl

pub returns-clause-too_high : goal.returns-clause-too_high
returns-clause-too_high c = refl

pub returns-clause-fault_before_height : goal.returns-clause-fault_before_height
returns-clause-fault_before_height c = refl

pub returns-clause-applied : goal.returns-clause-applied
returns-clause-applied c = refl
