use Rattle.std.proofs.Common.{arith}
use Rattle.std.proofs.lemmas.Result.{err_from_is_err_and}
use Rattle.j_indices.proofs.KindTests.{joined_long}
use Rattle.j_indices.proofs.axes.frame_of.Goals as goal

pub returns-in_err-shape-clause-err : goal.returns-in_err-shape-clause-err
returns-in_err-shape-clause-err c =
    let p = err_from_is_err_and c.from_residual.result c.from_residual.ensures.1 in
    let e = c.in_err-shape.ensures.err in
    rw (p.1, p.2) (e.0, joined_long c.args.nouns.now c.loop-noun.noun-index c.noun-item.result c.loop-noun.shape c.axes.result.now (omega arith) c.noun-item.is c.axes.ensures.value c.loop-noun.invariant e.1)
