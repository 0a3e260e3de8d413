use Rattle.std.proofs.Common.{◌≡◌, ℤ, pos, get_or, rules, subst, w64, FitsSigned}
use Rattle.std.proofs.lemmas.Int.{to_z-of_z}
use Rattle.j_eval.specs.Pieces.{form_of}
use Rattle.j_eval.proofs.Forms.{first_says}
use Rattle.j_eval.proofs.pieces.first_cut_form.Goals as goal

pub returns-in-len1-up : goal.returns-in-len1-up
returns-in-len1-up c =
    let n = get_or c.args.numbers.now 0 (pos 0) in
    let fits : FitsSigned w64 n = search rules in
    first_says c.form_of.result c.args.numbers.now c.in-len1-up.len_at_least
    (subst (λ (z : ℤ). c.form_of.result ≡ form_of z) (to_z-of_z w64 n fits) c.form_of.ensures)
