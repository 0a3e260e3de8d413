use Rattle.std.proofs.Common.{◌≡◌, ◌∙◌, ap, arith, map, pos, take_all}
use Rattle.j_places.proofs.ItemLaws.{shape_is}
use Rattle.j_places.proofs.item_places.shape_of.Goals as goal

pub returns : goal.returns
returns c =
    let all : c.loop-n.lengths.items ≡ map (λ n. pos n) c.axes-axes.result.now = c.loop-n.invariant ∙ ap (map (λ n. pos n)) (take_all c.loop-n.n-index c.axes-axes.result.now (omega arith)) in
    shape_is c.args.y.now c.loop-n.lengths.items c.axes-axes.result.now c.shape_of.result c.make.result c.view.ensures.noun c.axes-axes.ensures.value c.shape_of.ensures all c.make.ensures.limited
