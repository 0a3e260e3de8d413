use Rattle.std.proofs.Common.{w64, sym, ◌∙◌}
use Rattle.std.proofs.lemmas.Int.{to_z-of_z}
use Rattle.j_kernels.proofs.PowerLaws.{power_checked}
use Rattle.j_kernels.proofs.powers.power.Goals as goal

pub returns : goal.returns
returns c =
    let ex = to_z-of_z w64 c.args.x c.ranges.x in
    let ey = to_z-of_z w64 c.args.y c.ranges.y in
    power_checked c.args.x c.args.y c.unsigned_abs.result c.short_exponent.result c.checked_pow.result c.ok_or.result
    (sym (rw (ex, ey) at c.is_fraction.ensures) ∙ c.if-is_fraction.false) (rw ey at c.unsigned_abs.ensures.value) c.short_exponent.ensures (rw ex at c.checked_pow.ensures) c.ok_or.ensures.value
