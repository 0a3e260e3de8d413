use Rattle.j_names.proofs.Laws.{got, got_none, got_local, got_no_local}
use Rattle.j_names.proofs.rows.simple_rows.Goals as goal

pub returns-clause-nowhere : goal.returns-clause-nowhere
returns-clause-nowhere c = simp (got, got_none, got_local, got_no_local)

pub returns-clause-in_z : goal.returns-clause-in_z
returns-clause-in_z c = simp (got, got_none, got_local, got_no_local)

pub returns-clause-in_current : goal.returns-clause-in_current
returns-clause-in_current c = simp (got, got_none, got_local, got_no_local)

pub returns-clause-current_before_z : goal.returns-clause-current_before_z
returns-clause-current_before_z c = simp (got, got_none, got_local, got_no_local)

pub returns-clause-in_locals : goal.returns-clause-in_locals
returns-clause-in_locals c = simp (got, got_none, got_local, got_no_local)

pub returns-clause-locals_before_z : goal.returns-clause-locals_before_z
returns-clause-locals_before_z c = simp (got, got_none, got_local, got_no_local)

pub returns-clause-locals_before_current : goal.returns-clause-locals_before_current
returns-clause-locals_before_current c = simp (got, got_none, got_local, got_no_local)

pub returns-clause-locals_before_both : goal.returns-clause-locals_before_both
returns-clause-locals_before_both c = simp (got, got_none, got_local, got_no_local)

pub returns-clause-outer_locals : goal.returns-clause-outer_locals
returns-clause-outer_locals c = simp (got, got_none, got_local, got_no_local)

pub returns-clause-another_locale : goal.returns-clause-another_locale
returns-clause-another_locale c = simp (got, got_none, got_local, got_no_local)

pub returns-clause-longer : goal.returns-clause-longer
returns-clause-longer c = simp (got, got_none, got_local, got_no_local)

pub returns-clause-shorter : goal.returns-clause-shorter
returns-clause-shorter c = simp (got, got_none, got_local, got_no_local)

pub returns-clause-joined : goal.returns-clause-joined
returns-clause-joined c = simp (got, got_none, got_local, got_no_local)
