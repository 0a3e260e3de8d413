use Rattle.std.proofs.Common.{◌∙◌}
use Rattle.j_cuts_key.proofs.Lists.{key_there, key_inside, key_answered}
use Rattle.j_definitions.specs.Array.{tally}
use Rattle.j_cuts_key.proofs.pieces.key.Goals as goal

pub class_places-requires-clause-links : goal.class_places-requires-clause-links
class_places-requires-clause-links c = c.requires.links.linked

pub class_places-requires-clause-place : goal.class_places-requires-clause-place
class_places-requires-clause-place c =
    key_there c.args.keys.now.classes.items c.args.keys.now.firsts.items (tally c.args.y.now.shape) c.args.k c.index.result.now c.requires.links.many c.requires.links.inside c.requires.place c.index.ensures

pub items_picked-requires : goal.items_picked-requires
items_picked-requires c =
    rw c.deref.ensures.value (key_inside c.args.y.now c.args.keys.now.classes.items c.index.result.now c.in_ok-places.places.items c.requires.links.many c.in_ok-places.ensures)

pub returns : goal.returns
returns c =
    key_answered c.items_picked.result c.args.y.now c.args.keys.now.classes.items c.args.keys.now.firsts.items c.args.k c.index.result.now c.deref.result.now c.requires.place c.index.ensures
    (c.deref.ensures.value ∙ c.in_ok-places.ensures) c.items_picked.ensures
