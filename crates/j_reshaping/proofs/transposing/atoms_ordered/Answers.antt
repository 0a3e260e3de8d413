use Rattle.std.proofs.Common.{◌∙◌, map, ap}
use Rattle.j_reshaping.specs.Axes.{axis_step}
use Rattle.j_reshaping.proofs.Orders.{reach_fits, made_many}
use Rattle.j_reshaping.proofs.transposing.atoms_ordered.Goals as goal

pub atoms_along-requires-clause-within : goal.atoms_along-requires-clause-within
atoms_along-requires-clause-within c =
    reach_fits c.args.y.now c.args.order.now c.axes-in-Ok.result.now c.axes-in-Ok-2.result.now c.view.ensures.noun c.requires.order c.requires.some (c.axes-in-Ok.ensures.value ∙ c.requires.shape)
    (c.axes-in-Ok-2.ensures.value ∙ c.in-Ok.ensures.ok ∙ ap (λ s. map (axis_step s) c.args.order.now) c.axes.ensures.value)

pub make-requires-clause-as_many : goal.make-requires-clause-as_many
make-requires-clause-as_many c =
    made_many c.args.y.now c.args.order.now c.axes-in-Ok.result.now c.axes-in-Ok-2.result.now c.args.shape _ c.in_ok-atoms-in-Ok.ensures c.axes-in-Ok.ensures.value c.requires.shape
    (c.axes-in-Ok-2.ensures.value ∙ c.in-Ok.ensures.ok ∙ ap (λ s. map (axis_step s) c.args.order.now) c.axes.ensures.value)
