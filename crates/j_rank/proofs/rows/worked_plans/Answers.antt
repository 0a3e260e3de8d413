use Rattle.std.proofs.Common.{refl}
use Rattle.j_rank.proofs.rows.worked_plans.Goals as goal

pub returns-clause-atoms : goal.returns-clause-atoms
returns-clause-atoms c = refl

pub returns-clause-lists : goal.returns-clause-lists
returns-clause-lists c = refl

pub returns-clause-whole : goal.returns-clause-whole
returns-clause-whole c = refl

pub returns-clause-greater : goal.returns-clause-greater
returns-clause-greater c = refl

pub returns-clause-items : goal.returns-clause-items
returns-clause-items c = refl

pub returns-clause-items_of_three : goal.returns-clause-items_of_three
returns-clause-items_of_three c = refl

pub returns-clause-no_axes_left : goal.returns-clause-no_axes_left
returns-clause-no_axes_left c = refl

pub returns-clause-second_row : goal.returns-clause-second_row
returns-clause-second_row c = refl

pub returns-clause-row_of_fills : goal.returns-clause-row_of_fills
returns-clause-row_of_fills c = refl

pub returns-clause-second_box : goal.returns-clause-second_box
returns-clause-second_box c = refl

pub returns-clause-boxes_of_fills : goal.returns-clause-boxes_of_fills
returns-clause-boxes_of_fills c = refl

pub returns-clause-atoms_and_list : goal.returns-clause-atoms_and_list
returns-clause-atoms_and_list c = refl

pub returns-clause-met : goal.returns-clause-met
returns-clause-met c = refl

pub returns-clause-prefix : goal.returns-clause-prefix
returns-clause-prefix c = refl

pub returns-clause-unequal : goal.returns-clause-unequal
returns-clause-unequal c = refl

pub returns-clause-no_prefix : goal.returns-clause-no_prefix
returns-clause-no_prefix c = refl

pub returns-clause-most : goal.returns-clause-most
returns-clause-most c = refl

pub returns-clause-too_many : goal.returns-clause-too_many
returns-clause-too_many c = refl
