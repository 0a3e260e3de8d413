use Rattle.std.proofs.Common.{arith, ap, ◌∙◌, ◌≡◌, ◌+◌, ◌*◌, drop}
use Rattle.std.specs.Cmp.Lexicographic.{pointwise}
use Rattle.std.specs.Ordering.{int_eq}
use Rattle.j_noun.specs.Runs.{equal_from}
use Rattle.j_noun.proofs.Passed.{each_holds}
use Rattle.j_noun.proofs.blocks.equal_blocks.Goals as goal

pub loop-k-preserved : goal.loop-k-preserved
loop-k-preserved c =
    let equal = each_holds (equal_from c.run_at-a.result 0) (equal_from c.run_at-b.result 0) (equal_from c.run_at-c.result 0) (equal_from c.run_at-d.result 0) c.if-differ.ensures in
    let first = c.run_at-a.ensures.rest equal.0 in
    let second = c.run_at-b.ensures.rest equal.1 in
    let third = c.run_at-c.ensures.rest equal.2 in
    let fourth = c.run_at-d.ensures.rest equal.3 in
    let next : c.loop-k.k * 4096 + 1024 + 1024 + 1024 + 1024 ≡ (c.loop-k.k + 1) * 4096 = omega arith in
    c.loop-k.invariant ∙ first ∙ second ∙ third ∙ fourth
    ∙ ap (λ n. pointwise int_eq (drop n c.args.x.now) (drop n c.args.y.now)) next
