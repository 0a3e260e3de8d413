use Rattle.j_rank.proofs.Made.{answers_as}
use Rattle.j_reshaping.proofs.Orders.{none_are, ordered_many, ordered_made}
use Rattle.j_reshaping.proofs.transposing.none_ordered.Goals as goal

pub make-requires-clause-as_many : goal.make-requires-clause-as_many
make-requires-clause-as_many c =
    ordered_many c.args.y.now.shape c.args.order.now c.args.shape _ c.args.y.now c.requires.shape (none_are c.args.y.now c.args.order.now _ _ c.view.ensures.noun c.requires.order c.requires.none c.kind.ensures c.in_ok-none.ensures)

pub returns : goal.returns
returns c =
    answers_as _ _ c.make.result
    (ordered_made c.args.y.now c.args.order.now c.args.shape _ c.requires.shape (none_are c.args.y.now c.args.order.now _ _ c.view.ensures.noun c.requires.order c.requires.none c.kind.ensures c.in_ok-none.ensures))
    c.make.ensures.limited
