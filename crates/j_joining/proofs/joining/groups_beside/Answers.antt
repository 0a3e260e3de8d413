use Rattle.std.proofs.Common.{◌≡◌, ◌≤◌, arith, rules}
use Rattle.j_definitions.specs.Array.{tally}
use Rattle.j_joining.specs.Brought.{left_axes, right_axes, item_beside}
use Rattle.j_joining.proofs.Beside.{item_few, tally_left, tally_right}
use Rattle.j_joining.proofs.joining.groups_beside.Goals as goal

pub shape_of_items-requires : goal.shape_of_items-requires
shape_of_items-requires c =
    let item : c.axes-5.result.now ≡ item_beside c.args.s.now c.args.t.now = search rules in
    item_few c.args.s.now c.args.t.now c.axes-5.result.now c.requires.left_few c.requires.right_few item

pub overflow_add-m : goal.overflow_add-m
overflow_add-m c =
    let m : c.tally-m.result ≡ tally (left_axes c.args.s.now c.args.t.now) = search rules in
    let n : c.tally-n.result ≡ tally (right_axes c.args.s.now c.args.t.now) = search rules in
    let few : c.tally-m.result ≤ 4194304 = omega (arith, tally_left c.args.s.now c.args.t.now, c.requires.left_short) in
    let less : c.tally-n.result ≤ 4194304 = omega (arith, tally_right c.args.s.now c.args.t.now, c.requires.right_short) in
    omega arith
