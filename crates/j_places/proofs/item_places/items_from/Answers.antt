use Rattle.std.proofs.Common.{◌∙◌, ap, sym, length}
use Rattle.j_places.proofs.PartLaws.{parts_within}
use Rattle.j_places.proofs.MadeLaws.{run_many, items_made}
use Rattle.j_places.proofs.item_places.items_from.Goals as goal

pub atoms_of_run-requires-clause-within : goal.atoms_of_run-requires-clause-within
atoms_of_run-requires-clause-within c =
    parts_within c.args.first c.args.count _ _ _ c.requires (c.atoms_an_item-size.ensures.all ∙ sym (ap length c.view.ensures.atoms))

pub make-requires-clause-as_many : goal.make-requires-clause-as_many
make-requires-clause-as_many c =
    ap length c.in_ok-copy.ensures.atoms
    ∙ run_many c.args.y.now _ _ _ c.args.first c.args.count c.atoms_an_item-size.result c.requires c.atoms_an_item-size.ensures.value c.atoms_an_item-size.ensures.all c.view.ensures.atoms c.leading.ensures
    c.item_axes.ensures.value

pub returns : goal.returns
returns c =
    items_made _ _ _ _ c.args.y.now _ c.args.first c.args.count c.atoms_an_item-size.result c.make.result c.in_ok-copy.ensures c.view.ensures.kind c.view.ensures.atoms c.requires c.atoms_an_item-size.ensures.value
    c.leading.ensures c.item_axes.ensures.value c.make.ensures.limited
