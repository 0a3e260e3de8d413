use Rattle.std.proofs.Common.{sym, ◌∙◌, true, false}
use Rattle.j_names.specs.Names.{key_cmp}
use Rattle.j_names.specs.Kept.{row_key, row_value}
use Rattle.j_names.proofs.Keys.{key_total, key_exact, key_has}
use Rattle.j_names.proofs.Search.{one_row}
use Rattle.j_names.proofs.names.first_row.Goals as goal

pub returns-then-is_at : goal.returns-then-is_at
returns-then-is_at c =
    sym (one_row key_cmp key_total key_exact row_key row_value true (c.args.locale.now, c.args.name.now) _ _ _ c.loop-i-test.true c.index-rows-i.is (key_has _ (c.args.locale.now, c.args.name.now) c.index-rows-i.result c.is_at.ensures ∙ c.if-is_at.true))
    ∙ c.loop-i.invariant

pub loop-i-preserved : goal.loop-i-preserved
loop-i-preserved c =
    sym (one_row key_cmp key_total key_exact row_key row_value false (c.args.locale.now, c.args.name.now) _ _ _ c.loop-i-test.true c.index-rows-i.is (key_has _ (c.args.locale.now, c.args.name.now) c.index-rows-i.result c.is_at.ensures ∙ c.if-is_at.false))
    ∙ c.loop-i.invariant
