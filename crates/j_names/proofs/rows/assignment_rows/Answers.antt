use Rattle.j_names.proofs.Laws.{got, got_none, got_local, got_no_local}
use Rattle.j_names.proofs.rows.assignment_rows.Goals as goal

pub returns-clause-global : goal.returns-clause-global
returns-clause-global c = simp (got, got_none, got_local, got_no_local)

pub returns-clause-global_of_local : goal.returns-clause-global_of_local
returns-clause-global_of_local c = simp (got, got_none, got_local, got_no_local)

pub returns-clause-global_of_outer : goal.returns-clause-global_of_outer
returns-clause-global_of_outer c = simp (got, got_none, got_local, got_no_local)

pub returns-clause-object_local : goal.returns-clause-object_local
returns-clause-object_local c = simp (got, got_none, got_local, got_no_local)

pub returns-clause-object_global : goal.returns-clause-object_global
returns-clause-object_global c = simp (got, got_none, got_local, got_no_local)

pub returns-clause-no_object_local : goal.returns-clause-no_object_local
returns-clause-no_object_local c = simp (got, got_none, got_local, got_no_local)

pub returns-clause-no_object_global : goal.returns-clause-no_object_global
returns-clause-no_object_global c = simp (got, got_none, got_local, got_no_local)

pub returns-clause-object_of_number : goal.returns-clause-object_of_number
returns-clause-object_of_number c = simp (got, got_none, got_local, got_no_local)

pub returns-clause-again : goal.returns-clause-again
returns-clause-again c = simp (got, got_none, got_local, got_no_local)
