use Rattle.std.proofs.Common.{rules, sym, ◌∙◌, ap, option_map, Some}
use Rattle.j_entity.specs.View.{entity_of}
use Rattle.j_names.specs.Names.{key_cmp}
use Rattle.j_names.specs.Kept.{row_key, row_value}
use Rattle.j_names.proofs.Keys.{key_total, key_exact}
use Rattle.j_names.specs.declared.names.Row.{Row}
use Rattle.j_names.proofs.Search.{not_found, found_within, found_value}
use Rattle.j_names.proofs.names.row_value.Goals as goal

pub returns-in_err-i : goal.returns-in_err-i
returns-in_err-i c =
    ap (option_map _) c.from_residual.ensures
    ∙ sym (not_found key_cmp key_total key_exact row_key row_value (c.args.locale.now, c.args.name.now) c.args.rows.now (sym c.first_row.ensures ∙ c.in_err-i.was))

pub offset_bounds-rows-i : goal.offset_bounds-rows-i
offset_bounds-rows-i c =
    let within = found_within key_cmp key_total key_exact row_key row_value (c.args.locale.now, c.args.name.now) c.args.rows.now c.in_ok-i.i (sym c.first_row.ensures ∙ c.in_ok-i.was) in
    search (rules, within)

pub bounds-rows-i : goal.bounds-rows-i
bounds-rows-i c = found_within key_cmp key_total key_exact row_key row_value (c.args.locale.now, c.args.name.now) c.args.rows.now c.in_ok-i.i (sym c.first_row.ensures ∙ c.in_ok-i.was)

pub returns : goal.returns
returns c =
    ap (λ (r : Row). Some (entity_of r.value)) (sym c.index-rows-i.is)
    ∙ found_value key_cmp key_total key_exact row_key row_value (c.args.locale.now, c.args.name.now) c.args.rows.now c.in_ok-i.i c.index-rows-i.result (sym c.first_row.ensures ∙ c.in_ok-i.was) c.index-rows-i.is
