use Rattle.std.proofs.Common.{◌≡◌, pos, map, sym, ap, ◌∙◌, take}
use Rattle.j_definitions.specs.Array.{product}
use Rattle.j_search.specs.declared.seeking.Side.TheVariants.{First}
use Rattle.j_search.specs.Matching.{places, bit, cells_for, cell_for, has_item}
use Rattle.j_search.specs.Sought.{item_place}
use Rattle.j_search.proofs.Nouns.{places_of_items}
use Rattle.j_search.proofs.Keeping.{found_low}
use Rattle.j_search.proofs.Picked.{answer_is}
use Rattle.j_search.proofs.Answered.{too_many, found_many, kept_bits, member_bits}
use Rattle.j_search.proofs.index.member.Goals as goal

pub returns-in_default : goal.returns-in_default
returns-in_default c = too_many c.args.y.now c.args.x.now (λ d. bit (has_item c.args.y.now d)) c.in_default.ensures

pub make-requires-clause-as_many : goal.make-requires-clause-as_many
make-requires-clause-as_many c =
    found_many _ c.items_frame-items.result.count c.in-Some.frame.count c.in_ok-bits.bits.items c.deref.result.now c.in_ok-bits.ensures (c.deref.ensures.value ∙ c.in_ok-places.ensures)
    ∙ c.in-Some.ensures.0.count ∙ sym (ap product c.shape_of_frame.ensures)

pub make-requires-clause-bits : goal.make-requires-clause-bits
make-requires-clause-bits c = found_low c.items_frame-items.result.count c.deref.result.now c.in_ok-bits.bits.items c.in_ok-bits.ensures

pub returns : goal.returns
returns c =
    let counted : c.in-Some.frame.count ≡ cells_for c.args.y.now c.args.x.now = c.in-Some.ensures.0.count ∙ ap (λ a. product (take a c.args.x.now.shape)) c.in-Some.ensures.1 in
    let found : c.deref.result.now ≡ map (λ k. pos (item_place First c.args.y.now (cell_for c.args.y.now c.args.x.now k))) (places (cells_for c.args.y.now c.args.x.now)) =
    c.deref.ensures.value ∙ c.in_ok-places.ensures
    ∙ places_of_items First c.args.y.now c.items_frame-items.result c.args.x.now c.in-Some.frame c.items_frame-items.ensures.axes c.items_frame-items.ensures.count c.in-Some.ensures.1 counted in
    answer_is c.make.result
    (kept_bits c.shape_of_frame.result _ c.in_ok-bits.bits _ (c.shape_of_frame.ensures ∙ ap (λ a. take a c.args.x.now.shape) c.in-Some.ensures.1)
    (member_bits c.args.x.now c.args.y.now c.in_ok-bits.bits.items c.deref.result.now c.items_frame-items.result.count (cells_for c.args.y.now c.args.x.now) c.in_ok-bits.ensures c.items_frame-items.ensures.count found))
    c.make.ensures.limited
