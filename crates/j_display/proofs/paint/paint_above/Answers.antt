use Rattle.std.proofs.Common.{arith, ◌≡◌}
use Rattle.j_display.specs.Rows.{rules_above}
use Rattle.j_display.proofs.Grids.{above_many}
use Rattle.j_display.proofs.Rules.{above_none, above_one}
use Rattle.j_display.proofs.paint.paint_above.Goals as goal

pub returns-then-above-eq0-clause-row : goal.returns-then-above-eq0-clause-row
returns-then-above-eq0-clause-row c = omega (arith, above_many c.args.grid.frame.now c.args.grid.widths.now c.args.k, c.in_ok-end.ensures)

pub returns-then-above-eq0-clause-canvas : goal.returns-then-above-eq0-clause-canvas
returns-then-above-eq0-clause-canvas c =
    let none : rules_above c.args.grid.frame.now c.args.k ≡ 0 = omega arith in
    above_none c.args.canvas.now c.append_to_each.new.self c.args.grid.frame.now c.args.grid.widths.now c.args.k c.args.row c.what_stands_above-above.result.gap c.args.width c.in_ok-append_to_each.ensures c.what_stands_above-above.ensures.gap none

pub returns-clause-row : goal.returns-clause-row
returns-clause-row c =
    let one : rules_above c.args.grid.frame.now c.args.k ≡ 1 = omega arith in
    omega (arith, above_many c.args.grid.frame.now c.args.grid.widths.now c.args.k, c.in_ok-end.ensures, c.in_ok-next.ensures)

pub returns-clause-canvas : goal.returns-clause-canvas
returns-clause-canvas c =
    let one : rules_above c.args.grid.frame.now c.args.k ≡ 1 = omega arith in
    above_one c.args.canvas.now c.append_to_each.new.self c.paint_rule.new.canvas c.args.grid.frame.now c.args.grid.widths.now c.args.k c.args.row c.in_ok-end.end c.what_stands_above-above.result.gap c.args.width
    c.in_ok-append_to_each.ensures c.what_stands_above-above.ensures.gap c.in_ok-end.ensures c.in_ok-paint_rule.ensures one
