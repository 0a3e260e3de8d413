use Rattle.j_explicit.proofs.Known.{spelled, simple_named}
use Rattle.j_explicit.proofs.rows.spelling_laws.Goals as goal

pub returns-clause-words : goal.returns-clause-words
returns-clause-words c = spelled

pub returns-clause-names : goal.returns-clause-names
returns-clause-names c = simple_named
