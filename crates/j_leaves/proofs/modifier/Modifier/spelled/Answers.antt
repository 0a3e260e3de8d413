use Rattle.j_leaves.proofs.Inverse.{modifier_inverse}
use Rattle.j_leaves.proofs.modifier.Modifier.spelled.Goals as goal

pub returns-clause-inverse : goal.returns-clause-inverse
returns-clause-inverse c p = rw c.first_spelled.ensures (modifier_inverse c.args.word.now p)
