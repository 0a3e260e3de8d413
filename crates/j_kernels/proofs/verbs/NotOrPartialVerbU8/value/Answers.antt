use Rattle.std.proofs.Common.{not, ◌||◌, ap, ◌∙◌}
use mir.Val.{bool_byte}
use Rattle.j_kernels.proofs.Storage.{truth_given, passed_truths}
use Rattle.j_kernels.proofs.verbs.NotOrPartialVerbU8.value.Goals as goal

pub returns-in-Ok : goal.returns-in-Ok
returns-in-Ok c =
    truth_given _ _ c.from.result (passed_truths (λ a b. not (a || b)) c.args.x c.args.y _ c.ranges.x c.ranges.y (c.in-Ok.ensures (λ a b. not (a || b))))
    (c.from.ensures ∙ ap bool_byte c.neither.ensures)

pub returns-in-Err : goal.returns-in-Err
returns-in-Err c = passed_truths (λ a b. not (a || b)) c.args.x c.args.y _ c.ranges.x c.ranges.y (c.in-Err.ensures (λ a b. not (a || b)))
