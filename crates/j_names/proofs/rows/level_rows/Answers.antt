use Rattle.j_names.proofs.Laws.{got, got_none, got_local, got_no_local}
use Rattle.j_names.proofs.rows.level_rows.Goals as goal

pub returns-clause-fresh : goal.returns-clause-fresh
returns-clause-fresh c = simp (got, got_none, got_local, got_no_local)

pub returns-clause-back : goal.returns-clause-back
returns-clause-back c = simp (got, got_none, got_local, got_no_local)

pub returns-clause-gone : goal.returns-clause-gone
returns-clause-gone c = simp (got, got_none, got_local, got_no_local)

pub returns-clause-a_local : goal.returns-clause-a_local
returns-clause-a_local c = simp (got, got_none, got_local, got_no_local)

pub returns-clause-a_global : goal.returns-clause-a_global
returns-clause-a_global c = simp (got, got_none, got_local, got_no_local)

pub returns-clause-an_outer : goal.returns-clause-an_outer
returns-clause-an_outer c = simp (got, got_none, got_local, got_no_local)

pub returns-clause-elsewhere : goal.returns-clause-elsewhere
returns-clause-elsewhere c = simp (got, got_none, got_local, got_no_local)

pub returns-clause-there : goal.returns-clause-there
returns-clause-there c = simp (got, got_none, got_local, got_no_local)
