use Rattle.std.proofs.Common.{◌≡◌, ℤ, pos, get_or, rules, subst, w64, FitsSigned}
use Rattle.std.proofs.lemmas.Int.{to_z-of_z}
use Rattle.j_trains.specs.Modifiers.{cut_number_fault}
use Rattle.j_trains.proofs.Signs.{first_says}
use Rattle.j_trains.proofs.operands.first_cut_fault.Goals as goal

pub returns-in-len1-up : goal.returns-in-len1-up
returns-in-len1-up c =
    let n = get_or c.args.numbers.now 0 (pos 0) in
    let fits : FitsSigned w64 n = search rules in
    first_says c.cut_number_fault.result c.args.numbers.now c.in-len1-up.len_at_least
    (subst (λ (z : ℤ). c.cut_number_fault.result ≡ cut_number_fault z) (to_z-of_z w64 n fits) c.cut_number_fault.ensures)
