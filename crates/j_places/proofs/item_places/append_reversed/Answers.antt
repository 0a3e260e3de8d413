use Rattle.std.proofs.Common.{◌∙◌, ◌++◌, ap, arith}
use Rattle.j_places.proofs.PartLaws.{reversed_more, reversed_all}
use Rattle.j_places.proofs.item_places.append_reversed.Goals as goal

pub loop-k-preserved : goal.loop-k-preserved
loop-k-preserved g c =
    c.in_ok-append.ensures
    ∙ reversed_more c.args.size c.args.all.now c.loop-k.out.items c.args.out.now.items c.part.result.now c.args.count c.loop-k.k c.loop-k-test.true c.part.ensures c.loop-k.invariant

pub returns : goal.returns
returns g c = c.loop-k.invariant ∙ ap (λ r. c.args.out.now.items ++ r) (reversed_all c.args.size c.args.all.now c.args.count c.loop-k.k (omega arith))
