use Rattle.std.proofs.Common.{◌≡◌, ap, ◌∙◌, take}
use Rattle.j_definitions.specs.Array.{product}
use Rattle.j_search.specs.Matching.{cells_for, items_at}
use Rattle.j_search.proofs.Nouns.{places_among_cells}
use Rattle.j_search.proofs.Picked.{answer_is}
use Rattle.j_search.proofs.Lost.{lost_less, lost_below}
use Rattle.j_search.proofs.index.less.Goals as goal

pub items_at-requires : goal.items_at-requires
items_at-requires c =
    let counted : c.in-Some.frame.count ≡ cells_for c.args.x.now c.args.y.now = c.in-Some.ensures.0.count ∙ ap (λ a. product (take a c.args.y.now.shape)) c.in-Some.ensures.1 in
    lost_below c.args.x.now c.args.y.now c.deref-2.result.now
    (c.deref-2.ensures.value
    ∙ lost_less c.args.x.now c.args.y.now c.deref.result.now c.in_ok-lost.lost.items c.in-Some.frame.count
    (c.deref.ensures.value ∙ c.in_ok-places.ensures ∙ places_among_cells c.args.x.now c.items_frame-items.result c.args.y.now c.in-Some.frame c.items_frame-items.ensures.axes c.items_frame-items.ensures.count c.in-Some.ensures.1 counted)
    counted c.in_ok-lost.ensures)

pub returns : goal.returns
returns c =
    let counted : c.in-Some.frame.count ≡ cells_for c.args.x.now c.args.y.now = c.in-Some.ensures.0.count ∙ ap (λ a. product (take a c.args.y.now.shape)) c.in-Some.ensures.1 in
    answer_is c.items_at.result
    (ap (items_at c.args.x.now) (c.deref-2.ensures.value
    ∙ lost_less c.args.x.now c.args.y.now c.deref.result.now c.in_ok-lost.lost.items c.in-Some.frame.count
    (c.deref.ensures.value ∙ c.in_ok-places.ensures ∙ places_among_cells c.args.x.now c.items_frame-items.result c.args.y.now c.in-Some.frame c.items_frame-items.ensures.axes c.items_frame-items.ensures.count c.in-Some.ensures.1 counted)
    counted c.in_ok-lost.ensures)) c.items_at.ensures
