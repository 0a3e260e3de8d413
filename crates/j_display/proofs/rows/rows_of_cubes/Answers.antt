use Rattle.std.proofs.Common.{refl}
use Rattle.std.specs.Fmt.{digits}
use Rattle.j_display.proofs.rows.rows_of_cubes.Goals as goal

pub returns-clause-cube : goal.returns-clause-cube
unfolding digits
returns-clause-cube c = refl

pub returns-clause-two_by_two : goal.returns-clause-two_by_two
unfolding digits
returns-clause-two_by_two c = refl

pub returns-clause-as_wide_in_each_table : goal.returns-clause-as_wide_in_each_table
unfolding digits
returns-clause-as_wide_in_each_table c = refl

pub returns-clause-one_table : goal.returns-clause-one_table
unfolding digits
returns-clause-one_table c = refl

pub returns-clause-characters : goal.returns-clause-characters
unfolding digits
returns-clause-characters c = refl

pub returns-clause-no_tables : goal.returns-clause-no_tables
unfolding digits
returns-clause-no_tables c = refl

pub returns-clause-first_axis_of_one : goal.returns-clause-first_axis_of_one
unfolding digits
returns-clause-first_axis_of_one c = refl

pub returns-clause-axis_of_one_begins_again : goal.returns-clause-axis_of_one_begins_again
unfolding digits
returns-clause-axis_of_one_begins_again c = refl

pub returns-clause-rank_four : goal.returns-clause-rank_four
unfolding digits
returns-clause-rank_four c = refl

pub returns-clause-characters_of_rank_four : goal.returns-clause-characters_of_rank_four
unfolding digits
returns-clause-characters_of_rank_four c = refl
