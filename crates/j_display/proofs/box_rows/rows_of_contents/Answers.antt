use Rattle.std.proofs.Common.{refl}
use Rattle.std.specs.Fmt.{digits}
use Rattle.j_display.proofs.box_rows.rows_of_contents.Goals as goal

pub returns-clause-atom : goal.returns-clause-atom
unfolding digits
returns-clause-atom c = refl

pub returns-clause-list_of_one : goal.returns-clause-list_of_one
unfolding digits
returns-clause-list_of_one c = refl

pub returns-clause-empty_numbers : goal.returns-clause-empty_numbers
unfolding digits
returns-clause-empty_numbers c = refl

pub returns-clause-line_feed : goal.returns-clause-line_feed
unfolding digits
returns-clause-line_feed c = refl

pub returns-clause-right_in_their_columns : goal.returns-clause-right_in_their_columns
unfolding digits
returns-clause-right_in_their_columns c = refl

pub returns-clause-tables_of_rank_four : goal.returns-clause-tables_of_rank_four
unfolding digits
returns-clause-tables_of_rank_four c = refl
