use Rattle.std.proofs.Common.{◌∙◌, ap, sym, arith, length}
use Rattle.std.proofs.lemmas.List.{nil_from_length}
use Rattle.j_rank.specs.Assembly.{common_shape}
use Rattle.j_rank.proofs.Widest.{zeros_many, none_wide, rank_within, length-common_shape}
use Rattle.j_rank.proofs.common.common_shape.Goals as goal

pub loop-r-init : goal.loop-r-init
loop-r-init c =
    let value = none_wide c.greatest_rank-rank.result c.greatest_rank-rank.ensures.few in
    record {
      many = ap length value ∙ zeros_many c.greatest_rank-rank.result;
      value = value;
    }

pub widen-requires : goal.widen-requires
widen-requires c =
    let within = rank_within c.args.results.now c.loop-r.r-index c.r-item.result c.axes.result.now c.greatest_rank-rank.result c.loop-r-test.true c.r-item.is c.axes.ensures.value c.greatest_rank-rank.ensures.value in
    omega (arith, within, c.loop-r.invariant.many)

pub returns-then-rank-eq0-clause-value : goal.returns-then-rank-eq0-clause-value
returns-then-rank-eq0-clause-value c =
    c.new.ensures
    ∙ sym (nil_from_length (common_shape c.args.results.now) (length-common_shape c.args.results.now ∙ sym c.greatest_rank-rank.ensures.value ∙ c.if-rank-eq0.true))
