use Rattle.std.proofs.Common.{◌∙◌, sym}
use Rattle.j_definitions.specs.Array.{tally}
use Rattle.j_reshaping.proofs.Shapes.{wants_all}
use Rattle.j_reshaping.proofs.reshaping.wants_items.Goals as goal

pub returns : goal.returns
returns c = wants_all c.args.lengths.now (tally c.args.y.now.shape) _ (sym c.tally.ensures ∙ c.if-tally-ne0.false) c.contains.ensures.value
