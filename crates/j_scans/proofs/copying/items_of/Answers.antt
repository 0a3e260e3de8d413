use Rattle.std.proofs.Common.{◌++◌, ◌∙◌, ap, length}
use Rattle.j_scans.specs.Spans.{places_in}
use Rattle.j_scans.proofs.Made.{piece_made, piece_many, both_inside, both_many}
use Rattle.j_definitions.specs.Array.{tally}
use Rattle.j_scans.proofs.copying.items_of.Goals as goal

pub make-requires-clause-as_many : goal.make-requires-clause-as_many
make-requires-clause-as_many c =
    ap length c.in_ok-atoms.ensures.atoms
    ∙ piece_many c.args.y.now _ _ _ (places_in c.args.front ++ places_in c.args.back) _ c.atoms_an_item-size.result (both_inside (tally c.args.y.now.shape) c.args.front c.args.back c.requires.front c.requires.back)
    c.atoms_an_item-size.ensures.value c.atoms_an_item-size.ensures.all c.view.ensures.atoms (both_many c.args.front c.args.back) c.leading.ensures c.item_axes.ensures.value

pub returns-in-Ok : goal.returns-in-Ok
returns-in-Ok c =
    c.in-Ok.ensures.ok.0
    ∙ piece_made _ _ _ _ c.args.y.now _ (places_in c.args.front ++ places_in c.args.back) _ c.atoms_an_item-size.result c.in_ok-atoms.ensures c.view.ensures.kind c.view.ensures.atoms
    (both_inside (tally c.args.y.now.shape) c.args.front c.args.back c.requires.front c.requires.back) c.atoms_an_item-size.ensures.value (both_many c.args.front c.args.back) c.leading.ensures c.item_axes.ensures.value
