use Rattle.std.proofs.Common.{◌<◌, ◌-◌, length, arith}
use Rattle.j_cuts_key.proofs.Rising.{rising_high}
use Rattle.j_cuts_key.proofs.spans.after_fret.Goals as goal

pub overflow_add-result : goal.overflow_add-result
overflow_add-result c =
    let before : c.args.k - 1 < length c.args.frets.now = omega (arith, c.requires.place) in
    omega (arith, c.requires.few, rising_high 0 c.args.items c.args.frets.now (c.args.k - 1) 0 c.requires.rising before)
