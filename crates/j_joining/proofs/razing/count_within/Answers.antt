use Rattle.std.proofs.Common.{ap, arith}
use Rattle.j_definitions.specs.Array.{product}
use Rattle.j_joining.proofs.Razed.{many_already}
use Rattle.j_joining.proofs.razing.count_within.Goals as goal

pub returns-then-total-more-gt-CELL_LIMIT : goal.returns-then-total-more-gt-CELL_LIMIT
returns-then-total-more-gt-CELL_LIMIT c =
    many_already c.args.lists.now c.loop-y.y-index c.y-item.result c.loop-y.total c.in-Some.more c.loop-y-test.true c.y-item.is c.loop-y.invariant.so_far
    (omega (arith, c.in-Some.ensures.0, ap product c.axes.ensures.value, c.view.ensures.noun.as_many)) c.if-total-more-gt-CELL_LIMIT.true
