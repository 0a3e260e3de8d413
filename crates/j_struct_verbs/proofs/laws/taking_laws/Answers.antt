use Rattle.j_struct_verbs.proofs.Taking.{taken_and_left}
use Rattle.j_struct_verbs.proofs.laws.taking_laws.Goals as goal

pub returns : goal.returns
returns c = taken_and_left
