use Rattle.std.proofs.Common.{rules, ◌≡◌, ◌-◌, length}
use Rattle.j_eval.proofs.Stacks.{stack_without}
use Rattle.j_eval.proofs.stack.drop_first.Goals as goal

pub returns : goal.returns
returns c =
    let m : c.saturating_sub-left.result ≡ length c.args.stack.now.items - c.args.n = search rules in
    rw c.truncate.ensures.items (stack_without c.args.stack.now.items c.saturating_sub-left.result c.args.n m)
