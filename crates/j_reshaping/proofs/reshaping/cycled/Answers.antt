use Rattle.std.proofs.Common.{◌∙◌, ◌++◌, ap, sym}
use Rattle.j_rank.proofs.Paddings.{pieces_more}
use Rattle.j_reshaping.proofs.reshaping.cycled.Goals as goal

pub loop-preserved : goal.loop-preserved
loop-preserved g c = c.in_ok-append.ensures ∙ ap (λ r. r ++ c.args.run.now) c.loop.invariant ∙ sym (pieces_more (λ k. c.args.run.now) c.loop.counter)
