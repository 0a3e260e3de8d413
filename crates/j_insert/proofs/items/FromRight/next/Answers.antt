use Rattle.std.proofs.Common.{◌<◌, arith}
use Rattle.j_insert.proofs.Reversed.{item_said, rest_said}
use Rattle.j_insert.proofs.items.FromRight.next.Goals as goal

pub returns-clause-item : goal.returns-clause-item
returns-clause-item c =
    let some : 0 < c.self.inside.left = omega arith in
    item_said c.args.self.now c.self.inside.noun.now c.in_ok-item.item c.self.inside.left c.self.view_is some c.in_ok-item.ensures.ok

pub returns-clause-rest : goal.returns-clause-rest
returns-clause-rest c =
    let some : 0 < c.self.inside.left = omega arith in
    rest_said c.args.self.now c.self.inside.noun.now c.self.inside.left c.self.view_is some
