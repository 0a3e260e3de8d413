use Rattle.std.proofs.Common.{pos, ◌<◌, w64, ◌∙◌, arith}
use Rattle.std.proofs.lemmas.Int.{ints, to_z-of_z, to_z_pos, quot_fits}
use Rattle.j_kernels.proofs.Checked.{whole_checked}
use Rattle.j_kernels.proofs.MultipleLaws.{not_zero, some_size, some_divisor, multiple_by_part, multiple_beyond}
use Rattle.j_kernels.proofs.multiples.common_multiple.Goals as goal

pub returns-then-divisor : goal.returns-then-divisor
returns-then-divisor c =
    let ex = to_z-of_z w64 c.args.x c.ranges.x in
    let ey = to_z-of_z w64 c.args.y c.ranges.y in
    let em = rw ex at c.unsigned_abs.ensures.value in
    let en = rw ey at c.unsigned_abs-2.ensures.value in
    let divides = rw (em, en) at c.common_divisor-divisor.ensures.divides in
    multiple_beyond c.args.x c.args.y c.common_divisor-divisor.result c.ranges.x c.ranges.y (not_zero c.args.x c.if-x-eq0.false) (not_zero c.args.y c.if-y-eq0.false)
    (rw (em, en) at c.common_divisor-divisor.ensures.value) divides.0 divides.1 c.if-divisor.true

pub nonzero_div-part : goal.nonzero_div-part
nonzero_div-part c =
    let ex = to_z-of_z w64 c.args.x c.ranges.x in
    let em = rw ex at c.unsigned_abs.ensures.value in
    let d = c.common_divisor-divisor.result in
    let some : 0 < d = some_divisor d _ (rw em at c.common_divisor-divisor.ensures.divides.0) (some_size c.args.x (not_zero c.args.x c.if-x-eq0.false)) in
    (some, rw (ex, to_z_pos w64 d c.if-divisor.false) (quot_fits w64 c.args.x (pos d) c.ranges.x (omega (arith, ints))))

pub returns : goal.returns
returns c =
    let ex = to_z-of_z w64 c.args.x c.ranges.x in
    let ey = to_z-of_z w64 c.args.y c.ranges.y in
    let em = rw ex at c.unsigned_abs.ensures.value in
    let en = rw ey at c.unsigned_abs-2.ensures.value in
    let d = c.common_divisor-divisor.result in
    let zx = not_zero c.args.x c.if-x-eq0.false in
    let divides = rw em at c.common_divisor-divisor.ensures.divides.0 in
    let some : 0 < d = some_divisor d _ divides (some_size c.args.x zx) in
    let part = to_z-of_z w64 _ (quot_fits w64 c.args.x (pos d) c.ranges.x (omega (arith, ints))) in
    multiple_by_part c.args.x c.args.y d zx (not_zero c.args.y c.if-y-eq0.false) (rw (em, en) at c.common_divisor-divisor.ensures.value) divides
    ∙ whole_checked _ c.checked_mul.result c.ok_or.result (rw (ex, ey, to_z_pos w64 d c.if-divisor.false, part) at c.checked_mul.ensures) c.ok_or.ensures.value
