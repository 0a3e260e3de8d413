use Rattle.std.proofs.Common.{sym}
use Rattle.j_leaves.proofs.Names.{name_kept}
use Rattle.j_leaves.proofs.name.Name.read.Goals as goal

pub invariant_of-result : goal.invariant_of-result
invariant_of-result c = name_kept c.args.spelling.now c.in-Some.form _ (sym c.in-Some.ensures.same) c.in_ok-base.ensures
