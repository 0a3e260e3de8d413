use Rattle.std.proofs.Common.{refl}
use Rattle.std.specs.Fmt.{digits}
use Rattle.j_display.proofs.box_rows.rows_of_nested_boxes.Goals as goal

pub returns-clause-list_and_table : goal.returns-clause-list_and_table
unfolding digits
returns-clause-list_and_table c = refl

pub returns-clause-lists : goal.returns-clause-lists
unfolding digits
returns-clause-lists c = refl

pub returns-clause-list_and_table_of_boxes : goal.returns-clause-list_and_table_of_boxes
unfolding digits
returns-clause-list_and_table_of_boxes c = refl

pub returns-clause-three_deep_beside_one : goal.returns-clause-three_deep_beside_one
unfolding digits
returns-clause-three_deep_beside_one c = refl

pub returns-clause-no_rows_beside_two : goal.returns-clause-no_rows_beside_two
unfolding digits
returns-clause-no_rows_beside_two c = refl
