use Rattle.std.proofs.Common.{◌∙◌, ap, sym, length}
use Rattle.j_definitions.specs.Array.{product}
use Rattle.j_select.proofs.Placings.{amended_many}
use Rattle.j_select.proofs.amending.amended.Goals as goal

pub make-requires-clause-as_many : goal.make-requires-clause-as_many
make-requires-clause-as_many c =
    ap length c.in_ok-atoms.ensures.atoms ∙ amended_many c.args.x.now.atoms c.args.y.now.atoms c.args.places.now ∙ c.view.ensures.noun.as_many ∙ ap product (sym c.shape.ensures)
