use Rattle.std.proofs.Common.{◌≢◌, ap, pos, FitsSigned, w64, of_z, rules}
use Rattle.std.specs.Int.{w128}
use Rattle.std.proofs.lemmas.Int.{to_z-of_z}
use Rattle.j_insert.proofs.Dividing.{digit_is}
use Rattle.j_insert.proofs.digits.last_digit_of.Goals as goal

pub returns-clause-digit : goal.returns-clause-digit
returns-clause-digit c =
    let fq : FitsSigned w128 c.floor_quotient-rest.result = search rules in
    let nz : c.args.x ≢ pos 0 = λ e. c.if-x-eq0.false (ap (of_z w64) e) in
    let passed = rw (to_z-of_z w128 c.args.r c.ranges.r, to_z-of_z w64 c.args.x c.ranges.x) at c.floor_quotient-rest.ensures.value in
    let from = rw (to_z-of_z w64 c.args.x c.ranges.x) at c.from.ensures in
    digit_is c.args.r c.args.x c.from.result c.floor_quotient-rest.result nz c.ranges.x from passed c.ranges.r fq c.requires
