use Rattle.std.proofs.Common.{◌-◌, ◌∙◌, arith}
use Rattle.j_joining.proofs.Razed.{refused_stays, joined_more}
use Rattle.j_joining.specs.Joining.{append}
use Rattle.j_joining.proofs.razing.joined_from_right.Goals as goal

pub returns-in-Err : goal.returns-in-Err
returns-in-Err c =
    refused_stays c.args.nouns.now (c.loop-k.k - 1) (append c.index-nouns-k-in-loop-k.result c.loop-k.all) c.in-Err.refusal (omega (arith, c.loop-k.invariant.place))
    (joined_more c.args.nouns.now (c.loop-k.k - 1) c.loop-k.k c.index-nouns-k-in-loop-k.result c.loop-k.all (omega arith) c.loop-k.invariant.place c.index-nouns-k-in-loop-k.is c.loop-k.invariant.so_far)
    c.in-Err.ensures

pub loop-k-preserved : goal.loop-k-preserved
loop-k-preserved c = record {
  place = omega (arith, c.loop-k.invariant.place);
  so_far =
      joined_more c.args.nouns.now (c.loop-k.k - 1) c.loop-k.k c.index-nouns-k-in-loop-k.result c.loop-k.all (omega arith) c.loop-k.invariant.place c.index-nouns-k-in-loop-k.is c.loop-k.invariant.so_far
      ∙ c.in-Ok.ensures;
}
