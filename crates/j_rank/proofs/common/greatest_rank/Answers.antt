use Rattle.std.proofs.Common.{◌≡◌, ◌∙◌, ap, arith, length, get_or, subst}
use Rattle.std.proofs.lemmas.List.Elements.{All-more}
use Rattle.j_definitions.specs.Array.{Array, IsNoun}
use Rattle.j_rank.proofs.Widest.{greatest_rank_more, greater_is}
use Rattle.j_rank.proofs.common.greatest_rank.Goals as goal

pub loop-r-preserved : goal.loop-r-preserved
loop-r-preserved c =
    let r = c.r-item.result in
    let more = greatest_rank_more c.args.results.now c.loop-r.r-index r (omega arith) in
    let long : length c.axes.result.now ≡ length (get_or c.args.results.now c.loop-r.r-index r).shape = ap length (c.axes.ensures.value ∙ ap (λ (a : Array). a.shape) c.r-item.is) in
    record {
      value = omega (arith, more, long, c.loop-r.invariant.value, c.max-rank.ensures, greater_is);
      few = omega (arith, c.max-rank.ensures, greater_is, c.loop-r.invariant.few, ap length c.axes.ensures.value, c.axes.ensures.rank);
      nouns = All-more IsNoun c.args.results.now c.loop-r.r-index r (omega arith) c.loop-r.invariant.nouns (subst IsNoun c.r-item.is c.view.ensures.noun);
    }
