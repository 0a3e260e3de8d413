use Rattle.std.proofs.Common.{ℕ, List, ◌∙◌, length, reverse, sym, ap, subst}
use Rattle.j_reshaping.specs.Axes.{axes_of}
use Rattle.j_reshaping.specs.Steps.{IsOrder}
use Rattle.j_reshaping.proofs.Orders.{reverse_order}
use Rattle.j_reshaping.proofs.transposing.transpose.Goals as goal

pub ordered-requires : goal.ordered-requires
ordered-requires c =
    subst (λ (order : List ℕ). IsOrder (length c.args.y.now.shape) order) (sym (c.axes-2.ensures.value ∙ c.reversed_axes-order.ensures ∙ ap (λ s. reverse (axes_of (length s))) c.axes.ensures.value))
    (reverse_order (length c.args.y.now.shape))
