use Rattle.std.proofs.Common.{ap, ◌∙◌, ◌+◌, ℕ, length, arith}
use Rattle.std.proofs.lemmas.List.{length_push}
use Rattle.j_rank.specs.Collected.{Collected}
use Rattle.j_joining.proofs.Stitched.{more, faulty}
use Rattle.j_joining.proofs.stitching.pairs_joined.Goals as goal

pub returns-in-Err : goal.returns-in-Err
returns-in-Err c = faulty c.args.plan.now c.args.x.now c.args.y.now c.loop-k.k c.loop-k.results.results c.in-Err.refusal (omega arith) c.in-Err.ensures c.loop-k.invariant.same

pub loop-k-preserved : goal.loop-k-preserved
loop-k-preserved c =
    let v = c.loop-k.invariant in
    let pushed = ap (λ (r : Collected). r.results) c.in_ok-push.ensures.ok in
    record {
      frame = ap (λ (r : Collected). r.frame) c.in_ok-push.ensures.ok ∙ v.frame;
      many = ap length pushed ∙ (length_push c.loop-k.results.results c.in-Ok.r ∙ ap (λ (n : ℕ). n + 1) v.many);
      same = more c.args.plan.now c.args.x.now c.args.y.now c.loop-k.k c.loop-k.results.results c.push.new.self.results c.in-Ok.r (omega arith) c.in-Ok.ensures pushed v.same;
    }
