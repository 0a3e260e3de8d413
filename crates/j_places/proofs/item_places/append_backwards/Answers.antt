use Rattle.std.proofs.Common.{◌∷◌, [], ◌-◌, ◌∙◌, ◌++◌, ap, arith}
use Rattle.j_places.proofs.PartLaws.{part_of_one, reversed_more, reversed_all}
use Rattle.j_places.proofs.item_places.append_backwards.Goals as goal

pub loop-k-preserved : goal.loop-k-preserved
loop-k-preserved g c =
    c.in_ok-append_one.ensures
    ∙ reversed_more 1 c.args.all.now c.loop-k.out.items c.args.out.now.items (c.index-all-count.result ∷ []) c.args.count c.loop-k.k c.loop-k-test.true
    (part_of_one c.args.all.now (c.args.count - 1 - c.loop-k.k) c.index-all-count.result (omega (arith, c.requires, c.loop-k-test.true)) c.index-all-count.is) c.loop-k.invariant

pub returns : goal.returns
returns g c = c.loop-k.invariant ∙ ap (λ r. c.args.out.now.items ++ r) (reversed_all 1 c.args.all.now c.args.count c.loop-k.k (omega (arith, c.loop-k-test.false)))
