use Rattle.std.proofs.Common.{◌∙◌, ap, sym, length}
use Rattle.j_definitions.specs.Array.{product}
use Rattle.j_places.proofs.MadeLaws.{item_many, item_beyond}
use Rattle.j_places.proofs.item_places.item_at.Goals as goal

pub returns-in_default : goal.returns-in_default
returns-in_default c = item_beyond c.args.y.now c.args.k c.item_axes-own.result.now c.view.ensures.noun c.requires c.item_axes-own.ensures.value c.in_default.ensures

pub make-requires-clause-as_many : goal.make-requires-clause-as_many
make-requires-clause-as_many c =
    ap length c.in_ok-atoms.ensures.atoms ∙ item_many c.args.y.now c.args.k c.view.ensures.noun c.requires ∙ ap product (sym (c.shape_of.ensures ∙ c.item_axes-own.ensures.value))
