use Rattle.std.proofs.Common.{refl}
use Rattle.std.specs.Fmt.{digits}
use Rattle.j_display.proofs.format_rows.rows_of_formats.Goals as goal

pub returns-clause-atom : goal.returns-clause-atom
unfolding digits
returns-clause-atom c = refl

pub returns-clause-negative_atom : goal.returns-clause-negative_atom
unfolding digits
returns-clause-negative_atom c = refl

pub returns-clause-list : goal.returns-clause-list
unfolding digits
returns-clause-list c = refl

pub returns-clause-list_of_one : goal.returns-clause-list_of_one
unfolding digits
returns-clause-list_of_one c = refl

pub returns-clause-table : goal.returns-clause-table
unfolding digits
returns-clause-table c = refl

pub returns-clause-cube_without_empty_rows : goal.returns-clause-cube_without_empty_rows
unfolding digits
returns-clause-cube_without_empty_rows c = refl

pub returns-clause-empty_list : goal.returns-clause-empty_list
unfolding digits
returns-clause-empty_list c = refl

pub returns-clause-no_rows : goal.returns-clause-no_rows
unfolding digits
returns-clause-no_rows c = refl

pub returns-clause-no_columns : goal.returns-clause-no_columns
unfolding digits
returns-clause-no_columns c = refl

pub returns-clause-no_tables : goal.returns-clause-no_tables
unfolding digits
returns-clause-no_tables c = refl

pub returns-clause-character : goal.returns-clause-character
unfolding digits
returns-clause-character c = refl

pub returns-clause-text : goal.returns-clause-text
unfolding digits
returns-clause-text c = refl

pub returns-clause-no_characters : goal.returns-clause-no_characters
unfolding digits
returns-clause-no_characters c = refl

pub returns-clause-box_refused : goal.returns-clause-box_refused
unfolding digits
returns-clause-box_refused c = refl

pub returns-clause-no_boxes_refused : goal.returns-clause-no_boxes_refused
unfolding digits
returns-clause-no_boxes_refused c = refl

pub returns-clause-column : goal.returns-clause-column
unfolding digits
returns-clause-column c = refl

pub returns-clause-no_atoms_of_rank_four : goal.returns-clause-no_atoms_of_rank_four
unfolding digits
returns-clause-no_atoms_of_rank_four c = refl

pub returns-clause-table_of_boxes_refused : goal.returns-clause-table_of_boxes_refused
unfolding digits
returns-clause-table_of_boxes_refused c = refl

pub returns-clause-table_without_boxes_refused : goal.returns-clause-table_without_boxes_refused
unfolding digits
returns-clause-table_without_boxes_refused c = refl
