use Rattle.std.proofs.Common.{refl, sym, ◌∙◌, ap, arith}
use Rattle.std.specs.Ordering.{nat_cmp}
use Rattle.std.specs.Cmp.Lexicographic.{slice_cmp}
use Rattle.j_names.specs.Kept.{local_name, local_value}
use Rattle.j_names.proofs.Keys.{text_total, text_exact}
use Rattle.j_names.specs.declared.names.Local.{Local}
use Rattle.j_names.proofs.Search.{searched, not_found, found_within, kept_set}
use Rattle.j_names.proofs.names.replace_local.Goals as goal

pub index_mut-requires : goal.index_mut-requires
index_mut-requires c =
    let within = found_within (slice_cmp nat_cmp) text_total text_exact local_name local_value c.args.name.now c.deref.result.now c.in-Some.i (sym c.first_local.ensures ∙ c.in-Some.is) in
    omega (arith, within, c.deref.ensures.len)

pub returns-in-Some-clause-done : goal.returns-in-Some-clause-done
returns-in-Some-clause-done c _ =
    kept_set (slice_cmp nat_cmp) text_total text_exact local_name local_value c.args.name.now c.args.locals.now.items c.in-Some.i c.index_mut.result.now (record { name = c.index_mut.result.now.name; value = c.args.value })
    (searched (slice_cmp nat_cmp) text_total text_exact local_name local_value c.args.name.now c.deref.result.now _ _ _ c.deref.ensures.value c.first_local.ensures c.in-Some.is)
    (ap (λ (r : Local). r.name) c.index_mut.ensures.value)

pub returns-in-None-clause-new : goal.returns-in-None-clause-new
returns-in-None-clause-new c =
    let none = not_found (slice_cmp nat_cmp) text_total text_exact local_name local_value c.args.name.now c.args.locals.now.items (searched (slice_cmp nat_cmp) text_total text_exact local_name local_value c.args.name.now c.deref.result.now _ _ _ c.deref.ensures.value c.first_local.ensures c.in-None.is) in
    (refl, none, refl)
