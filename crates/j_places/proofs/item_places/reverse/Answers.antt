use Rattle.std.proofs.Common.{◌∙◌, ◌∷◌, ap, sym, length}
use Rattle.j_places.proofs.MadeLaws.{reversed_many, reversed_made}
use Rattle.j_places.proofs.item_places.reverse.Goals as goal

pub make-requires-clause-as_many : goal.make-requires-clause-as_many
make-requires-clause-as_many c =
    ap length c.in_ok-atoms.ensures.atoms
    ∙ reversed_many c.args.y.now _ _ _ c.tally.result c.atoms_an_item-size.result c.tally.ensures c.atoms_an_item-size.ensures.value c.atoms_an_item-size.ensures.all c.view.ensures.atoms
    (c.leading.ensures ∙ ap (λ n. n ∷ c.item_axes.result.now) (c.tally-2.ensures ∙ sym c.tally.ensures)) c.item_axes.ensures.value

pub returns : goal.returns
returns c =
    reversed_made _ _ _ _ c.args.y.now _ c.tally.result c.atoms_an_item-size.result c.make.result c.in_ok-atoms.ensures c.view.ensures.kind c.view.ensures.atoms c.tally.ensures c.atoms_an_item-size.ensures.value
    (c.leading.ensures ∙ ap (λ n. n ∷ c.item_axes.result.now) (c.tally-2.ensures ∙ sym c.tally.ensures)) c.item_axes.ensures.value c.make.ensures.limited
