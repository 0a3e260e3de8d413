use Rattle.std.proofs.Common.{arith}
use Rattle.j_definitions.proofs.Laws.{boxes_weight_more, boxes_level_more}
use Rattle.j_noun.proofs.noun.totals.Goals as goal

pub loop-kid-preserved : goal.loop-kid-preserved
loop-kid-preserved c =
    let lt = c.loop-kid-test.true in
    let w = boxes_weight_more c.args.kids.now c.loop-kid.kid-index c.kid-item.result lt in
    let l = boxes_level_more c.args.kids.now c.loop-kid.kid-index c.kid-item.result lt in
    rw (w, l, ← c.kid-item.is) (grind arith)
