use Rattle.j_explicit.proofs.Texts.{halved_doubled}
use Rattle.j_explicit.proofs.rows.text_laws.Goals as goal

pub returns : goal.returns
returns c = halved_doubled
