use Rattle.std.proofs.Common.{◌≡◌, ◌<◌, ◌∙◌, rules, ap, pos, to_z, w64, FitsSigned}
use Rattle.std.proofs.lemmas.Int.{to_z-of_z}
use Rattle.std.specs.Int.RustNames.{unsigned_abs}
use Rattle.std.specs.Int.{int_rem_euclid}
use Rattle.j_places.proofs.AxisLaws.{rotated_round}
use Rattle.j_places.proofs.axis.rotated.Goals as goal

pub returns-clause-places : goal.returns-clause-places
returns-clause-places c =
    let some : 0 < c.args.extent = search rules in
    let fits : FitsSigned w64 c.rem_euclid-left.result = search rules in
    let extent : to_z w64 c.args.extent ≡ pos c.args.extent = search rules in
    rotated_round c.args.k c.args.extent _ some
    (ap unsigned_abs (to_z-of_z w64 c.rem_euclid-left.result fits ∙ c.rem_euclid-left.ensures.value ∙ ap (λ z. int_rem_euclid z (to_z w64 c.args.extent)) (to_z-of_z w64 c.args.k c.ranges.k) ∙ ap (int_rem_euclid c.args.k) extent))
