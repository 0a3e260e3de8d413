use Rattle.j_words.proofs.Agreeing.{class_let_through}
use Rattle.j_words.proofs.rows.vocabulary_laws.Goals as goal

pub returns : goal.returns
returns c = class_let_through
