use Rattle.j_leaves.proofs.Names.{same_name}
use Rattle.j_leaves.proofs.name.Name.duplicate.Goals as goal

pub invariant_of-result : goal.invariant_of-result
invariant_of-result c = same_name c.self.inside.base _ c.self.inside.place _ c.self.invariant c.in_ok-base.ensures c.in_ok-place.ensures
