use Rattle.std.proofs.Common.{◌∷◌, sym, ap, ◌∙◌, length, subst}
use Rattle.std.specs.List.{flat_map}
use Rattle.j_definitions.specs.Array.{product}
use Rattle.j_definitions.specs.Items.{part}
use Rattle.j_definitions.specs.declared.Kind.{Kind}
use Rattle.j_noun.specs.Held.{AreAtoms}
use Rattle.j_noun.specs.Viewed.{viewed}
use Rattle.j_search.proofs.Picked.{picks_same, picks_within, length-picks, made_items, answer_is}
use Rattle.j_search.proofs.picking.items_at.Goals as goal

pub pick_atoms-requires-clause-within : goal.pick_atoms-requires-clause-within
pick_atoms-requires-clause-within c =
    picks_within c.args.y.now (length (viewed c.view-all.result)) c.size_of_items-size.result c.args.places.now (ap length c.view-all.ensures.atoms ∙ c.view-all.ensures.noun.as_many) c.requires c.size_of_items-size.ensures

pub make-requires-clause-as_many : goal.make-requires-clause-as_many
make-requires-clause-as_many c =
    ap length (c.in_ok-atoms.ensures.atoms ∙ picks_same c.args.y.now (viewed c.view-all.result) c.size_of_items-size.result c.args.places.now c.view-all.ensures.atoms c.requires c.size_of_items-size.ensures)
    ∙ length-picks c.args.y.now c.args.places.now c.view-all.ensures.noun c.requires
    ∙ sym (ap product (c.shape_behind.ensures ∙ ap (λ s. length c.args.places.now ∷ s) c.item_axes.ensures.value))

pub returns : goal.returns
returns c =
    let are : AreAtoms c.in_ok-atoms.atoms c.args.y.now.kind (flat_map (part c.size_of_items-size.result (viewed c.view-all.result)) c.args.places.now) =
    subst (λ (k : Kind). AreAtoms c.in_ok-atoms.atoms k (flat_map (part c.size_of_items-size.result (viewed c.view-all.result)) c.args.places.now)) c.view-all.ensures.kind c.in_ok-atoms.ensures in
    answer_is c.make.result
    (made_items c.args.y.now c.in_ok-atoms.atoms c.args.places.now c.shape_behind.result (flat_map (part c.size_of_items-size.result (viewed c.view-all.result)) c.args.places.now) are
    (picks_same c.args.y.now (viewed c.view-all.result) c.size_of_items-size.result c.args.places.now c.view-all.ensures.atoms c.requires c.size_of_items-size.ensures)
    (c.shape_behind.ensures ∙ ap (λ s. length c.args.places.now ∷ s) c.item_axes.ensures.value)) c.make.ensures.limited
