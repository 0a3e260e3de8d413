use Rattle.std.proofs.Common.{◌≡◌, ◌<◌, arith, ap, rules, length}
use Rattle.j_joining.proofs.Razed.{one_kept, one_listed}
use Rattle.j_joining.proofs.razing.as_list.Goals as goal

pub returns-then-is_empty : goal.returns-then-is_empty
returns-then-is_empty c =
    let none : length c.axes.result.now ≡ 0 = search rules in
    one_listed c.args.y.now c.ravelled.result c.view.ensures.noun (omega (arith, ap length c.axes.ensures.value)) c.ravelled.ensures

pub returns : goal.returns
returns c =
    let some : 0 < length c.axes.result.now = search rules in
    one_kept c.args.y.now c.in_ok-duplicate.field-0 c.view.ensures.noun (omega (arith, ap length c.axes.ensures.value)) c.in_ok-duplicate.ensures.ok
