use Rattle.std.proofs.Common.{sym, ◌∙◌, true, false}
use Rattle.std.specs.Ordering.{nat_cmp}
use Rattle.std.specs.Cmp.Lexicographic.{slice_cmp}
use Rattle.j_names.specs.Kept.{local_name, local_value}
use Rattle.j_names.proofs.Keys.{text_total, text_exact, name_has}
use Rattle.j_names.proofs.Search.{one_row}
use Rattle.j_names.proofs.names.first_local.Goals as goal

pub returns-then-is_named : goal.returns-then-is_named
returns-then-is_named c =
    sym (one_row (slice_cmp nat_cmp) text_total text_exact local_name local_value true c.args.name.now _ _ _ c.loop-i-test.true c.index-locals-i.is (name_has _ c.args.name.now c.index-locals-i.result c.is_named.ensures ∙ c.if-is_named.true))
    ∙ c.loop-i.invariant

pub loop-i-preserved : goal.loop-i-preserved
loop-i-preserved c =
    sym (one_row (slice_cmp nat_cmp) text_total text_exact local_name local_value false c.args.name.now _ _ _ c.loop-i-test.true c.index-locals-i.is (name_has _ c.args.name.now c.index-locals-i.result c.is_named.ensures ∙ c.if-is_named.false))
    ∙ c.loop-i.invariant
