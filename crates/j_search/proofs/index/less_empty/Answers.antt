use Rattle.std.proofs.Common.{ap, ◌∙◌, pos, map}
use Rattle.j_search.specs.Matching.{places, items_at}
use Rattle.j_search.proofs.Runs.{each_same}
use Rattle.j_search.proofs.Picked.{answer_is}
use Rattle.j_search.proofs.Lost.{empty_less, lost_below}
use Rattle.j_search.proofs.index.less_empty.Goals as goal

pub items_at-requires : goal.items_at-requires
items_at-requires c =
    lost_below c.args.x.now c.args.y.now c.deref-2.result.now
    (c.deref-2.ensures.value
    ∙ empty_less c.args.x.now c.args.y.now c.items_frame-items.result.axes c.place_of_shape-place.result c.deref.result.now c.in_ok-lost.lost.items c.view.ensures.noun c.requires c.items_frame-items.ensures.axes c.place_of_shape-place.ensures.place
    (c.deref.ensures.value ∙ c.in_ok-places.ensures ∙ each_same (pos c.place_of_shape-place.result) 0 c.items_frame-items.result.count ∙ ap (λ n. map (λ j. pos c.place_of_shape-place.result) (places n)) c.items_frame-items.ensures.count)
    c.in_ok-lost.ensures)

pub returns : goal.returns
returns c =
    answer_is c.items_at.result
    (ap (items_at c.args.x.now) (c.deref-2.ensures.value
    ∙ empty_less c.args.x.now c.args.y.now c.items_frame-items.result.axes c.place_of_shape-place.result c.deref.result.now c.in_ok-lost.lost.items c.view.ensures.noun c.requires c.items_frame-items.ensures.axes c.place_of_shape-place.ensures.place
    (c.deref.ensures.value ∙ c.in_ok-places.ensures ∙ each_same (pos c.place_of_shape-place.result) 0 c.items_frame-items.result.count ∙ ap (λ n. map (λ j. pos c.place_of_shape-place.result) (places n)) c.items_frame-items.ensures.count)
    c.in_ok-lost.ensures)) c.items_at.ensures
