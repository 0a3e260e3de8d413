use Rattle.std.proofs.Common.{◌≡◌, ◌<◌, ◌-◌, ◌+◌, ◌*◌, ◌++◌, ◌∙◌, [], length, ap, arith}
use Rattle.j_rank.proofs.Paddings.{on_ok}
use Rattle.j_reshaping.proofs.Walks.{in_reach, one_element, walk_more, walk_run}
use Rattle.j_reshaping.proofs.transposing.append_steps.Goals as goal

pub loop-i-preserved : goal.loop-i-preserved
loop-i-preserved g c =
    let near = in_reach c.args.start c.args.count c.args.step c.loop-i.i 1 (length c.args.run.now) c.requires c.loop-i-test.true in
    let within : c.args.start + c.loop-i.i * c.args.step < length c.args.run.now = omega (arith, near) in
    walk_more c.args.run.now c.args.out.now.items c.loop-i.out.items c.append_one.new.out.items c.args.start c.loop-i.i c.args.step [] [] c.loop-i.invariant
    (c.in_ok-append_one.ensures ∙ ap (λ r. c.loop-i.out.items ++ r) (one_element c.args.run.now _ c.index-run-start.result within c.index-run-start.is))

pub returns-then-step-eq1 : goal.returns-then-step-eq1
returns-then-step-eq1 g c =
    let all : (c.args.start + c.args.count) - c.args.start ≡ c.args.count = omega arith in
    on_ok c.append.result _ _ (walk_run c.args.run.now c.args.out.now.items c.append.new.out.items c.args.start c.args.count c.args.step _ c.if-step-eq1.true all) c.append.ensures
