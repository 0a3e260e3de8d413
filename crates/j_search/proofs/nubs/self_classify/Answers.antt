use Rattle.std.proofs.Common.{◌≡◌, ◌<◌, ◌*◌, ◌∷◌, [], pos, length, arith, rules, sym, ap, ◌∙◌, subst}
use Rattle.std.proofs.lemmas.List.{length-map}
use Rattle.j_definitions.specs.Array.{number, tally, product}
use Rattle.j_search.specs.Matching.{first_item, item_of, firsts}
use Rattle.j_search.proofs.Picked.{answer_is}
use Rattle.j_search.proofs.Answered.{places_few, own_nub, nub_below, kept_bits}
use Rattle.j_search.proofs.Alike.{classes, length-class_rows, class_low, class_too_many, two_axes, many_places}
use Rattle.j_search.proofs.nubs.self_classify.Goals as goal

pub own_places-requires : goal.own_places-requires
own_places-requires c =
    places_few (λ k. pos (first_item c.args.y.now (item_of c.args.y.now k))) (tally c.args.y.now.shape) 4194304 c.deref.result.now (c.deref.ensures.value ∙ c.in_ok-places.ensures.places) c.in_ok-places.ensures.few

pub returns-in_default : goal.returns-in_default
returns-in_default c =
    let rows : c.len.result ≡ length c.in_ok-own.own.items = search rules in
    let columns : c.len-2.result ≡ length c.in_ok-places.places.items = search rules in
    let size : product (c.len.result ∷ c.len-2.result ∷ []) ≡ length (firsts c.args.y.now) * tally c.args.y.now.shape =
    two_axes c.len.result c.len-2.result ∙ ap (λ a. a * c.len-2.result) (rows ∙ ap length (own_nub c.args.y.now c.deref.result.now c.in_ok-own.own.items (c.deref.ensures.value ∙ c.in_ok-places.ensures.places) c.in_ok-own.ensures))
    ∙ ap (λ b. length (firsts c.args.y.now) * b) (columns ∙ many_places c.args.y.now c.in_ok-places.places.items c.in_ok-places.ensures.places) in
    class_too_many c.args.y.now (subst (λ n. 4194304 < n) size c.in_default.ensures)

pub class_rows-requires : goal.class_rows-requires
class_rows-requires c = λ k d l.
    let low = nub_below c.args.y.now c.deref-2.result.now (c.deref-2.ensures.value ∙ own_nub c.args.y.now c.deref.result.now c.in_ok-own.own.items (c.deref.ensures.value ∙ c.in_ok-places.ensures.places) c.in_ok-own.ensures) k d l in
    omega (arith, c.in_ok-places.ensures.few)

pub make-requires-clause-as_many : goal.make-requires-clause-as_many
make-requires-clause-as_many c =
    let rows : c.len.result ≡ length c.in_ok-own.own.items = search rules in
    let columns : c.len-2.result ≡ length c.in_ok-places.places.items = search rules in
    length-map c.in_ok-bits.bits.items (λ b. number (pos b)) ∙ ap length c.in_ok-bits.ensures ∙ length-class_rows c.deref-2.result.now c.deref-3.result.now
    ∙ ap (λ a. a * length c.deref-3.result.now) (ap length c.deref-2.ensures.value ∙ sym rows) ∙ ap (λ b. c.len.result * b) (ap length c.deref-3.ensures.value ∙ sym columns)
    ∙ sym (two_axes c.len.result c.len-2.result) ∙ sym (ap product c.shape_of.ensures)

pub make-requires-clause-bits : goal.make-requires-clause-bits
make-requires-clause-bits c = class_low c.deref-2.result.now c.in_ok-bits.bits.items c.deref-3.result.now c.in_ok-bits.ensures

pub returns : goal.returns
returns c =
    let rows : c.len.result ≡ length c.in_ok-own.own.items = search rules in
    let columns : c.len-2.result ≡ length c.in_ok-places.places.items = search rules in
    answer_is c.make.result
    (kept_bits c.shape_of.result (length (firsts c.args.y.now) ∷ tally c.args.y.now.shape ∷ []) c.in_ok-bits.bits _
    (c.shape_of.ensures ∙ ap (λ a. a ∷ c.len-2.result ∷ []) (rows ∙ ap length (own_nub c.args.y.now c.deref.result.now c.in_ok-own.own.items (c.deref.ensures.value ∙ c.in_ok-places.ensures.places) c.in_ok-own.ensures))
    ∙ ap (λ b. length (firsts c.args.y.now) ∷ b ∷ []) (columns ∙ many_places c.args.y.now c.in_ok-places.places.items c.in_ok-places.ensures.places))
    (classes c.args.y.now c.deref-3.result.now c.deref-2.result.now c.in_ok-bits.bits.items (c.deref-3.ensures.value ∙ c.in_ok-places.ensures.places) (c.deref-2.ensures.value ∙ own_nub c.args.y.now c.deref.result.now c.in_ok-own.own.items (c.deref.ensures.value ∙ c.in_ok-places.ensures.places) c.in_ok-own.ensures) c.in_ok-bits.ensures)) c.make.ensures.limited
