use Rattle.std.proofs.Common.{◌∙◌, ap}
use Rattle.j_names.specs.Names.{key_cmp}
use Rattle.j_names.specs.Kept.{row_key, row_value, kept}
use Rattle.j_names.proofs.Keys.{key_total, key_exact}
use Rattle.j_names.proofs.Search.{kept_push}
use Rattle.j_names.proofs.names.append_row.Goals.{in-Ok, in-Err}
use Rattle.j_names.proofs.names.append_row.Goals as goal

pub returns-clause-ok : goal.returns-clause-ok
returns-clause-ok c =
    elim c.match-push.branch [
      | in-Ok w ↦ rw w.result-is (λ none. ap kept w.in-Ok.ensures.items ∙ kept_push key_cmp key_total key_exact row_key row_value c.args.rows.now.items c.args.row none)
      | in-Err w ↦ rw w.result-is tt
    ]
