use Rattle.std.proofs.Common.{refl}
use Rattle.std.specs.Fmt.{digits}
use Rattle.j_display.proofs.box_rows.rows_of_box_tables.Goals as goal

pub returns-clause-table : goal.returns-clause-table
unfolding digits
returns-clause-table c = refl

pub returns-clause-column : goal.returns-clause-column
unfolding digits
returns-clause-column c = refl

pub returns-clause-as_wide_in_each_table : goal.returns-clause-as_wide_in_each_table
unfolding digits
returns-clause-as_wide_in_each_table c = refl

pub returns-clause-tables_of_two_lines : goal.returns-clause-tables_of_two_lines
unfolding digits
returns-clause-tables_of_two_lines c = refl

pub returns-clause-rank_four : goal.returns-clause-rank_four
unfolding digits
returns-clause-rank_four c = refl

pub returns-clause-in_a_box : goal.returns-clause-in_a_box
unfolding digits
returns-clause-in_a_box c = refl
