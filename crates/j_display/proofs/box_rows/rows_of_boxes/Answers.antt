use Rattle.std.proofs.Common.{refl}
use Rattle.std.specs.Fmt.{digits}
use Rattle.j_display.proofs.box_rows.rows_of_boxes.Goals as goal

pub returns-clause-number : goal.returns-clause-number
unfolding digits
returns-clause-number c = refl

pub returns-clause-three_deep : goal.returns-clause-three_deep
unfolding digits
returns-clause-three_deep c = refl

pub returns-clause-cube_of_numbers : goal.returns-clause-cube_of_numbers
unfolding digits
returns-clause-cube_of_numbers c = refl

pub returns-clause-cube_of_characters : goal.returns-clause-cube_of_characters
unfolding digits
returns-clause-cube_of_characters c = refl

pub returns-clause-empty_table : goal.returns-clause-empty_table
unfolding digits
returns-clause-empty_table c = refl

pub returns-clause-empty_text : goal.returns-clause-empty_text
unfolding digits
returns-clause-empty_text c = refl

pub returns-clause-no_columns : goal.returns-clause-no_columns
unfolding digits
returns-clause-no_columns c = refl

pub returns-clause-no_boxes : goal.returns-clause-no_boxes
unfolding digits
returns-clause-no_boxes c = refl

pub returns-clause-no_boxes_in_tables : goal.returns-clause-no_boxes_in_tables
unfolding digits
returns-clause-no_boxes_in_tables c = refl

pub returns-clause-list_without_boxes : goal.returns-clause-list_without_boxes
unfolding digits
returns-clause-list_without_boxes c = refl

pub returns-clause-table_without_boxes : goal.returns-clause-table_without_boxes
unfolding digits
returns-clause-table_without_boxes c = refl
