use Rattle.std.proofs.Common.{◌∙◌, ap, length}
use Rattle.j_reshaping.proofs.Counting.{order_made}
use Rattle.j_reshaping.proofs.transposing.with_last.Goals as goal

pub ordered-requires : goal.ordered-requires
ordered-requires c =
    order_made _ (length c.args.y.now.shape) c.args.axes.now c.deref.result.now (ap length c.axes.ensures.value) (c.deref.ensures.value ∙ c.in_ok-order.ensures) c.requires.within c.requires.once
