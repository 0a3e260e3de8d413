use Rattle.std.proofs.Common.{rules, sym, ◌∙◌, ap, option_map, Some}
use Rattle.j_entity.specs.View.{entity_of}
use Rattle.std.specs.Ordering.{nat_cmp}
use Rattle.std.specs.Cmp.Lexicographic.{slice_cmp}
use Rattle.j_names.specs.Kept.{local_name, local_value}
use Rattle.j_names.proofs.Keys.{text_total, text_exact}
use Rattle.j_names.specs.declared.names.Local.{Local}
use Rattle.j_names.proofs.Search.{not_found, found_within, found_value}
use Rattle.j_names.proofs.names.local_value.Goals as goal

pub returns-in_err-i : goal.returns-in_err-i
returns-in_err-i c =
    ap (option_map _) c.from_residual.ensures
    ∙ sym (not_found (slice_cmp nat_cmp) text_total text_exact local_name local_value c.args.name.now c.args.locals.now (sym c.first_local.ensures ∙ c.in_err-i.was))

pub offset_bounds-locals-i : goal.offset_bounds-locals-i
offset_bounds-locals-i c =
    let within = found_within (slice_cmp nat_cmp) text_total text_exact local_name local_value c.args.name.now c.args.locals.now c.in_ok-i.i (sym c.first_local.ensures ∙ c.in_ok-i.was) in
    search (rules, within)

pub bounds-locals-i : goal.bounds-locals-i
bounds-locals-i c = found_within (slice_cmp nat_cmp) text_total text_exact local_name local_value c.args.name.now c.args.locals.now c.in_ok-i.i (sym c.first_local.ensures ∙ c.in_ok-i.was)

pub returns : goal.returns
returns c =
    ap (λ (r : Local). Some (entity_of r.value)) (sym c.index-locals-i.is)
    ∙ found_value (slice_cmp nat_cmp) text_total text_exact local_name local_value c.args.name.now c.args.locals.now c.in_ok-i.i c.index-locals-i.result (sym c.first_local.ensures ∙ c.in_ok-i.was) c.index-locals-i.is
