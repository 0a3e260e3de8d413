use Rattle.std.proofs.Common.{◌∙◌, sym}
use Rattle.j_reshaping.proofs.Shapes.{wanting, not_wanting, past_axes}
use Rattle.j_reshaping.proofs.reshaping.to_lengths.Goals as goal

pub returns-then-wants_items : goal.returns-then-wants_items
returns-then-wants_items c = wanting c.args.lengths.now c.args.y.now (sym c.wants_items.ensures ∙ c.if-wants_items.true)

pub returns-in-Ok : goal.returns-in-Ok
returns-in-Ok c = not_wanting c.args.lengths.now c.args.y.now _ (sym c.wants_items.ensures ∙ c.if-wants_items.false) c.fill_shape.ensures

pub returns-in-Err : goal.returns-in-Err
returns-in-Err c =
    past_axes c.args.lengths.now c.args.y.now c.in-Err.fault (sym c.wants_items.ensures ∙ c.if-wants_items.false) c.in-Err.ensures.err.0 c.in-Err.ensures.err.1
