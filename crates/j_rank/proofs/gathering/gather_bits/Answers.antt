use Rattle.j_rank.proofs.Bits.{bits_more}
use Rattle.j_rank.proofs.gathering.gather_bits.Goals as goal

pub loop-r-preserved : goal.loop-r-preserved
loop-r-preserved c =
    bits_more c.args.common.now c.axes.result.now c.args.results.now c.loop-r.r-index c.r-item.result c.in-Some.bits.now c.loop-r.out.items c.append_result.new.out.items c.loop-r-test.true c.r-item.is
    c.axes.ensures.value c.in-Some.ensures.atoms c.in-Some.ensures.bits c.loop-r.invariant c.in_ok-append_result.ensures
