use Rattle.std.proofs.Common.{sym, ◌∙◌, ◌+◌}
use Rattle.j_noun.specs.Runs.{equal_from}
use Rattle.j_noun.proofs.Passed.{pairs_passed}
use Rattle.j_noun.proofs.blocks.differ.Goals as goal

pub loop-i-preserved : goal.loop-i-preserved
loop-i-preserved c =
    let i = c.loop-i.i in
    let four = c.args in
    sym (pairs_passed c.loop-i.found (equal_from four.a i) (equal_from four.b i) (equal_from four.c i) (equal_from four.d i)
    (equal_from four.a (i + 1)) (equal_from four.b (i + 1)) (equal_from four.c (i + 1)) (equal_from four.d (i + 1))
    c.differs_at-found.result c.differs_at-found-in-loop-i.result c.differs_at-found-in-loop-i-2.result c.differs_at-found-in-loop-i-3.result
    c.differs_at-found.ensures c.differs_at-found-in-loop-i.ensures c.differs_at-found-in-loop-i-2.ensures c.differs_at-found-in-loop-i-3.ensures)
    ∙ c.loop-i.invariant
