use Rattle.std.proofs.Common.{pos, ap, ◌∙◌}
use Rattle.j_definitions.specs.Array.{tally}
use Rattle.j_search.specs.Matching.{items_at, first_item, item_of}
use Rattle.j_search.proofs.Picked.{answer_is}
use Rattle.j_search.proofs.Answered.{own_nub, nub_below, places_few}
use Rattle.j_search.proofs.nubs.nub.Goals as goal

pub items_at-requires : goal.items_at-requires
items_at-requires c =
    nub_below c.args.y.now _ (c.deref-2.ensures.value ∙ own_nub c.args.y.now c.deref.result.now c.in_ok-own.own.items (c.deref.ensures.value ∙ c.in_ok-places.ensures.places) c.in_ok-own.ensures)

pub returns : goal.returns
returns c =
    answer_is c.items_at.result
    (ap (items_at c.args.y.now) (c.deref-2.ensures.value ∙ own_nub c.args.y.now c.deref.result.now c.in_ok-own.own.items (c.deref.ensures.value ∙ c.in_ok-places.ensures.places) c.in_ok-own.ensures)) c.items_at.ensures

pub own_places-requires : goal.own_places-requires
own_places-requires c =
    places_few (λ k. pos (first_item c.args.y.now (item_of c.args.y.now k))) (tally c.args.y.now.shape) 4194304 c.deref.result.now (c.deref.ensures.value ∙ c.in_ok-places.ensures.places) c.in_ok-places.ensures.few
