use Rattle.std.proofs.Common.{◌≡◌, ◌∙◌, ap, sym, rules, length}
use Rattle.j_definitions.specs.Array.{product}
use Rattle.j_rank.specs.Assembly.{with_rank}
use Rattle.j_rank.proofs.Widest.{with_rank_same, product-with_rank}
use Rattle.j_rank.proofs.Paddings.{none_padded, on_ok}
use Rattle.j_rank.proofs.padding.append_result.Goals as goal

pub returns-then-eq : goal.returns-then-eq
returns-then-eq g c =
    let same : c.args.axes.now ≡ c.args.common.now = search rules in
    let from : with_rank (length c.args.common.now) c.args.axes.now ≡ c.args.common.now = with_rank_same (length c.args.common.now) c.args.axes.now (ap length same) ∙ same in
    on_ok c.append.result _ _
    (none_padded c.args.fill.now (with_rank (length c.args.common.now) c.args.axes.now) c.args.common.now c.args.all.now c.args.out.now.items c.append.new.out.items from
    (c.requires.many ∙ sym (product-with_rank (length c.args.common.now) c.args.axes.now))) c.append.ensures

pub append_padded-requires-clause-many : goal.append_padded-requires-clause-many
append_padded-requires-clause-many g c =
    c.requires.many ∙ sym (product-with_rank (length c.args.common.now) c.args.axes.now) ∙ ap product (sym (c.axes.ensures.value ∙ c.with_rank-from.ensures))
