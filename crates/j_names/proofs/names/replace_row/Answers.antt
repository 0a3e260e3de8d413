use Rattle.std.proofs.Common.{refl, sym, ◌∙◌, ap, arith}
use Rattle.j_names.specs.Names.{key_cmp, Key}
use Rattle.j_names.specs.Kept.{row_key, row_value}
use Rattle.j_names.proofs.Keys.{key_total, key_exact}
use Rattle.j_names.specs.declared.names.Row.{Row}
use Rattle.j_names.proofs.Search.{searched, not_found, found_within, kept_set}
use Rattle.j_names.proofs.names.replace_row.Goals as goal

pub index_mut-requires : goal.index_mut-requires
index_mut-requires c =
    let within = found_within key_cmp key_total key_exact row_key row_value (c.args.locale.now, c.args.name.now) c.deref.result.now c.in-Some.i (sym c.first_row.ensures ∙ c.in-Some.is) in
    omega (arith, within, c.deref.ensures.len)

pub returns-in-Some-clause-done : goal.returns-in-Some-clause-done
returns-in-Some-clause-done c _ =
    kept_set key_cmp key_total key_exact row_key row_value (c.args.locale.now, c.args.name.now) c.args.rows.now.items c.in-Some.i c.index_mut.result.now (record { locale = c.index_mut.result.now.locale; name = c.index_mut.result.now.name; value = c.args.value })
    (searched key_cmp key_total key_exact row_key row_value (c.args.locale.now, c.args.name.now) c.deref.result.now _ _ _ c.deref.ensures.value c.first_row.ensures c.in-Some.is)
    (ap (λ (r : Row). let k : Key = (r.locale, r.name) in k) c.index_mut.ensures.value)

pub returns-in-None-clause-new : goal.returns-in-None-clause-new
returns-in-None-clause-new c =
    let none = not_found key_cmp key_total key_exact row_key row_value (c.args.locale.now, c.args.name.now) c.args.rows.now.items (searched key_cmp key_total key_exact row_key row_value (c.args.locale.now, c.args.name.now) c.deref.result.now _ _ _ c.deref.ensures.value c.first_row.ensures c.in-None.is) in
    (refl, none, refl)
