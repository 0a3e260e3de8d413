use Rattle.j_leaves.proofs.Inverse.{primitive_inverse}
use Rattle.j_leaves.proofs.primitive.Primitive.spelled.Goals as goal

pub returns-clause-inverse : goal.returns-clause-inverse
returns-clause-inverse c p = rw c.first_spelled.ensures (primitive_inverse c.args.word.now p)
