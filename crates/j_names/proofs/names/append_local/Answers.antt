use Rattle.std.proofs.Common.{◌∙◌, ap}
use Rattle.std.specs.Ordering.{nat_cmp}
use Rattle.std.specs.Cmp.Lexicographic.{slice_cmp}
use Rattle.j_names.specs.Kept.{local_name, local_value, kept_locals}
use Rattle.j_names.proofs.Keys.{text_total, text_exact}
use Rattle.j_names.proofs.Search.{kept_push}
use Rattle.j_names.proofs.names.append_local.Goals.{in-Ok, in-Err}
use Rattle.j_names.proofs.names.append_local.Goals as goal

pub returns-clause-ok : goal.returns-clause-ok
returns-clause-ok c =
    elim c.match-push.branch [
      | in-Ok w ↦ rw w.result-is (λ none. ap kept_locals w.in-Ok.ensures.items ∙ kept_push (slice_cmp nat_cmp) text_total text_exact local_name local_value c.args.locals.now.items c.args.local none)
      | in-Err w ↦ rw w.result-is tt
    ]
