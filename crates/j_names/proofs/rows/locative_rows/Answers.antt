use Rattle.j_names.proofs.Laws.{got, got_none, got_local, got_no_local}
use Rattle.j_names.proofs.rows.locative_rows.Goals as goal

pub returns-clause-direct : goal.returns-clause-direct
returns-clause-direct c = simp (got, got_none, got_local, got_no_local)

pub returns-clause-direct_in_z : goal.returns-clause-direct_in_z
returns-clause-direct_in_z c = simp (got, got_none, got_local, got_no_local)

pub returns-clause-direct_in_current : goal.returns-clause-direct_in_current
returns-clause-direct_in_current c = simp (got, got_none, got_local, got_no_local)

pub returns-clause-no_object : goal.returns-clause-no_object
returns-clause-no_object c = simp (got, got_none, got_local, got_no_local)

pub returns-clause-object : goal.returns-clause-object
returns-clause-object c = simp (got, got_none, got_local, got_no_local)

pub returns-clause-object_in_z : goal.returns-clause-object_in_z
returns-clause-object_in_z c = simp (got, got_none, got_local, got_no_local)

pub returns-clause-object_in_locals : goal.returns-clause-object_in_locals
returns-clause-object_in_locals c = simp (got, got_none, got_local, got_no_local)

pub returns-clause-object_alone : goal.returns-clause-object_alone
returns-clause-object_alone c = simp (got, got_none, got_local, got_no_local)

pub returns-clause-object_elsewhere : goal.returns-clause-object_elsewhere
returns-clause-object_elsewhere c = simp (got, got_none, got_local, got_no_local)

pub returns-clause-letter_in_box : goal.returns-clause-letter_in_box
returns-clause-letter_in_box c = simp (got, got_none, got_local, got_no_local)

pub returns-clause-digits_in_box : goal.returns-clause-digits_in_box
returns-clause-digits_in_box c = simp (got, got_none, got_local, got_no_local)

pub returns-clause-text_alone : goal.returns-clause-text_alone
returns-clause-text_alone c = simp (got, got_none, got_local, got_no_local)

pub returns-clause-list_of_box : goal.returns-clause-list_of_box
returns-clause-list_of_box c = simp (got, got_none, got_local, got_no_local)

pub returns-clause-number_in_box : goal.returns-clause-number_in_box
returns-clause-number_in_box c = simp (got, got_none, got_local, got_no_local)

pub returns-clause-empty_in_box : goal.returns-clause-empty_in_box
returns-clause-empty_in_box c = simp (got, got_none, got_local, got_no_local)

pub returns-clause-blank_in_box : goal.returns-clause-blank_in_box
returns-clause-blank_in_box c = simp (got, got_none, got_local, got_no_local)

pub returns-clause-low_in_box : goal.returns-clause-low_in_box
returns-clause-low_in_box c = simp (got, got_none, got_local, got_no_local)

pub returns-clause-number : goal.returns-clause-number
returns-clause-number c = simp (got, got_none, got_local, got_no_local)

pub returns-clause-verb : goal.returns-clause-verb
returns-clause-verb c = simp (got, got_none, got_local, got_no_local)
