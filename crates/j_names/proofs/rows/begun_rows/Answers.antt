use Rattle.j_names.proofs.Laws.{got, got_none, got_local, got_no_local}
use Rattle.j_names.proofs.rows.begun_rows.Goals as goal

pub returns-clause-echo : goal.returns-clause-echo
returns-clause-echo c = simp (got, got_none, got_local, got_no_local)

pub returns-clause-cocurrent : goal.returns-clause-cocurrent
returns-clause-cocurrent c = simp (got, got_none, got_local, got_no_local)

pub returns-clause-no_more : goal.returns-clause-no_more
returns-clause-no_more c = simp (got, got_none, got_local, got_no_local)

pub returns-clause-anywhere : goal.returns-clause-anywhere
returns-clause-anywhere c = simp (got, got_none, got_local, got_no_local)

pub returns-clause-locative : goal.returns-clause-locative
returns-clause-locative c = simp (got, got_none, got_local, got_no_local)

pub returns-clause-shadowed : goal.returns-clause-shadowed
returns-clause-shadowed c = simp (got, got_none, got_local, got_no_local)
