use Rattle.std.proofs.Common.{refl}
use Rattle.std.specs.Fmt.{digits}
use Rattle.j_display.proofs.box_rows.rows_of_box_lists.Goals as goal

pub returns-clause-unequal_height : goal.returns-clause-unequal_height
unfolding digits
returns-clause-unequal_height c = refl

pub returns-clause-unequal_width : goal.returns-clause-unequal_width
unfolding digits
returns-clause-unequal_width c = refl

pub returns-clause-nested_list : goal.returns-clause-nested_list
unfolding digits
returns-clause-nested_list c = refl

pub returns-clause-empties : goal.returns-clause-empties
unfolding digits
returns-clause-empties c = refl

pub returns-clause-empty_among : goal.returns-clause-empty_among
unfolding digits
returns-clause-empty_among c = refl
