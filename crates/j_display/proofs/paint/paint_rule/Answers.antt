use Rattle.std.proofs.Common.{arith, rules, ◌∷◌, [], replicate, ap, ◌∙◌}
use Rattle.j_display.specs.Blocks.{extended}
use Rattle.j_display.proofs.Rules.{rule_more, rule_done}
use Rattle.j_display.proofs.paint.paint_rule.Goals as goal

pub loop-column-preserved : goal.loop-column-preserved
loop-column-preserved c =
    rule_more c.args.canvas.now c.loop-column.canvas c.append_copies.new.self c.append-in-loop-column.new.self c.args.widths.now c.args.row c.loop-column.column-index _ c.loop-column.invariant c.in_ok-append_copies.ensures c.in_ok-append-2.ensures
    (omega arith) (search rules)

pub returns : goal.returns
returns c =
    rule_done c.args.canvas.now c.loop-column.canvas c.append_copies-2.new.self c.args.widths.now c.args.row c.loop-column.column-index c.args.size c.args.width (omega arith) c.loop-column.invariant
    (c.in_ok-append_copies-2.ensures ∙ ap (λ n. extended c.loop-column.canvas c.args.row (replicate n 32 ∷ [])) c.saturating_sub.ensures) c.requires.size
