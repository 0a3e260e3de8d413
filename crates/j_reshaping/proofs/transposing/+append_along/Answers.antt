use Rattle.j_rank.proofs.Paddings.{head, rest}
use Rattle.j_reshaping.proofs.Walks.{walk_more}
use Rattle.j_reshaping.proofs.transposing.+append_along.Goals as goal

pub loop-i-preserved : goal.loop-i-preserved
loop-i-preserved g t c =
    walk_more c.args.run.now c.args.out.now.items c.loop-i.out.items c.append_along.new.out.items c.args.start c.loop-i.i (head c.args.steps.now) (rest c.args.lengths.now) (rest c.args.steps.now)
    c.loop-i.invariant c.in_ok-append_along.ensures
