use Rattle.std.proofs.Common.{◌<◌, ◌∙◌, ◌≢◌, arith, length, get_or, below_more, get_or-set_other, get_or-set_same}
use Rattle.std.proofs.lemmas.List.{length-set}
use Rattle.j_rank.proofs.Widest.{greater_is}
use Rattle.j_joining.proofs.Beside.{all_greater}
use Rattle.j_joining.proofs.joining.greater_axes.Goals as goal

pub loop-k-preserved : goal.loop-k-preserved
loop-k-preserved c = record {
  many = omega (arith, length-set c.loop-k.lengths c.loop-k.k c.max.result, c.loop-k.invariant.many);
  done =
      below_more _ _
      (λ j h. let ne : j ≢ c.loop-k.k = omega arith in rw get_or-set_other (c.loop-k.invariant.done j h))
      (let lt : c.loop-k.k < length c.loop-k.lengths = omega arith in rw get_or-set_same (c.max.ensures ∙ greater_is (get_or c.args.s.now c.loop-k.k 0) (get_or c.args.t.now c.loop-k.k 0)));
}

pub returns : goal.returns
returns c =
    all_greater c.args.s.now c.args.t.now c.loop-k.lengths c.shape_of.result c.requires.rank (omega arith) c.shape_of.ensures (λ j h. c.loop-k.invariant.done j (omega arith))
