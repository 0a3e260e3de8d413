use Rattle.std.proofs.Common.{◌≡◌, pos, map, sym, ap, ◌∙◌, take}
use Rattle.j_definitions.specs.Array.{number, product}
use Rattle.j_search.specs.Matching.{places, cells_for, cell_for}
use Rattle.j_search.specs.Sought.{item_place}
use Rattle.j_search.proofs.Nouns.{places_of_items}
use Rattle.j_search.proofs.Picked.{answer_is}
use Rattle.j_search.proofs.Answered.{too_many, many_mapped, kept_numbers}
use Rattle.j_search.proofs.index.places_of_cells.Goals as goal

pub returns-in_default : goal.returns-in_default
returns-in_default c = too_many c.args.x.now c.args.y.now (λ d. number (pos (item_place c.args.side c.args.x.now d))) c.in_default.ensures

pub make-requires-clause-as_many : goal.make-requires-clause-as_many
make-requires-clause-as_many c =
    many_mapped number _ c.in-Some.frame.count c.in_ok-places.places.items c.in_ok-places.ensures ∙ c.in-Some.ensures.0.count ∙ sym (ap product c.shape_of_frame.ensures)

pub returns : goal.returns
returns c =
    let counted : c.in-Some.frame.count ≡ cells_for c.args.x.now c.args.y.now = c.in-Some.ensures.0.count ∙ ap (λ a. product (take a c.args.y.now.shape)) c.in-Some.ensures.1 in
    let found : c.in_ok-places.places.items ≡ map (λ k. pos (item_place c.args.side c.args.x.now (cell_for c.args.x.now c.args.y.now k))) (places (cells_for c.args.x.now c.args.y.now)) =
    c.in_ok-places.ensures ∙ places_of_items c.args.side c.args.x.now c.items_frame.result c.args.y.now c.in-Some.frame c.items_frame.ensures.axes c.items_frame.ensures.count c.in-Some.ensures.1 counted in
    answer_is c.make.result
    (kept_numbers c.shape_of_frame.result _ c.in_ok-places.places (λ k. item_place c.args.side c.args.x.now (cell_for c.args.x.now c.args.y.now k)) (cells_for c.args.x.now c.args.y.now)
    (c.shape_of_frame.ensures ∙ ap (λ a. take a c.args.y.now.shape) c.in-Some.ensures.1) found) c.make.ensures.limited
