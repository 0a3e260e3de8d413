use Rattle.std.proofs.Common.{◌∙◌}
use Rattle.j_cuts_key.proofs.Lists.{line_there, line_inside, oblique_answered}
use Rattle.j_cuts_key.proofs.pieces.oblique.Goals as goal

pub line-requires-clause-place : goal.line-requires-clause-place
line-requires-clause-place c = line_there c.args.y.now c.rows.result c.columns.result c.args.k c.rows.ensures.value c.columns.ensures.value c.requires

pub items_picked-requires : goal.items_picked-requires
items_picked-requires c =
    rw c.deref.ensures.value (line_inside c.args.y.now c.rows.result c.columns.result c.in_ok-places.places.items c.rows.ensures.value c.columns.ensures.value c.in_ok-places.ensures.within)

pub returns : goal.returns
returns c =
    oblique_answered c.items_picked.result c.args.y.now c.rows.result c.columns.result c.args.k c.deref.result.now c.rows.ensures.value c.columns.ensures.value
    (line_there c.args.y.now c.rows.result c.columns.result c.args.k c.rows.ensures.value c.columns.ensures.value c.requires) (c.deref.ensures.value ∙ c.in_ok-places.ensures.places) c.items_picked.ensures
