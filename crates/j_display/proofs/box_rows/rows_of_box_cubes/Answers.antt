use Rattle.std.proofs.Common.{refl}
use Rattle.std.specs.Fmt.{digits}
use Rattle.j_display.proofs.box_rows.rows_of_box_cubes.Goals as goal

pub returns-clause-wide_in_all_high_in_one : goal.returns-clause-wide_in_all_high_in_one
unfolding digits
returns-clause-wide_in_all_high_in_one c = refl

pub returns-clause-high_by_line : goal.returns-clause-high_by_line
unfolding digits
returns-clause-high_by_line c = refl

pub returns-clause-two_by_two : goal.returns-clause-two_by_two
unfolding digits
returns-clause-two_by_two c = refl

pub returns-clause-first_axis_of_one : goal.returns-clause-first_axis_of_one
unfolding digits
returns-clause-first_axis_of_one c = refl
