use Rattle.std.proofs.Common.{arith, ◌≡◌, ◌+◌, ◌-◌, ap, ◌∙◌}
use Rattle.j_display.specs.Blocks.{extended}
use Rattle.j_display.specs.Measured.{blanks_below, bars}
use Rattle.j_display.proofs.paint.close_box.Goals as goal

pub returns : goal.returns
returns c =
    let below : c.in_ok-bottom.bottom - c.args.end ≡ c.args.row + c.args.height - c.args.end = omega (arith, c.in_ok-bottom.ensures) in
    c.in_ok-append_to_each-2.ensures
    ∙ ap (λ d. extended d c.args.row (bars c.args.height)) (c.in_ok-append_to_each.ensures ∙ ap (λ n. extended c.args.canvas.now c.args.end (blanks_below n c.args.width)) below)
