use Rattle.std.proofs.Common.{◌-◌, ap, ◌∙◌}
use Rattle.j_display.specs.Rows.{padded, rule}
use Rattle.j_display.specs.Blocks.{extended}
use Rattle.j_display.specs.Measured.{blanks_below}
use Rattle.j_display.proofs.Rules.{line_closed}
use Rattle.j_display.proofs.paint.close_line.Goals as goal

pub returns-clause-canvas : goal.returns-clause-canvas
returns-clause-canvas c =
    line_closed c.args.canvas.now c.append_to_each.new.self c.paint_rule.new.canvas c.args.row c.in_ok-end.end c.args.height (c.args.width - c.args.size) (padded c.args.width (rule c.args.widths.now))
    (c.in_ok-append_to_each.ensures ∙ ap (λ n. extended c.args.canvas.now c.args.row (blanks_below c.args.height n)) c.saturating_sub.ensures) c.in_ok-end.ensures c.in_ok-paint_rule.ensures
