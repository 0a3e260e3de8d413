use Rattle.std.proofs.Common.{◌∙◌, ◌++◌, ◌-◌, ap, arith, length}
use Rattle.std.proofs.lemmas.List.{take-replicate}
use Rattle.j_rank.proofs.common.with_rank.Goals as goal

pub returns : goal.returns
returns c =
    c.in-Ok.ensures.ok ∙ ap (λ s. s ++ c.args.axes.now) (c.shape_of.ensures ∙ take-replicate (c.args.rank - length c.args.axes.now) 32 1 (omega arith))
