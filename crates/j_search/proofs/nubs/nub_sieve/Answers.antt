use Rattle.std.proofs.Common.{◌≡◌, ◌∷◌, [], pos, arith, sym, ap, ◌∙◌}
use Rattle.j_definitions.specs.Array.{tally, product}
use Rattle.j_search.specs.Matching.{first_item, item_of}
use Rattle.j_search.proofs.Keeping.{own_low}
use Rattle.j_search.proofs.Picked.{answer_is}
use Rattle.j_search.proofs.Answered.{places_few, own_many, kept_bits, sieve_bits}
use Rattle.j_search.proofs.nubs.nub_sieve.Goals as goal

pub own_bits-requires : goal.own_bits-requires
own_bits-requires c =
    places_few (λ k. pos (first_item c.args.y.now (item_of c.args.y.now k))) (tally c.args.y.now.shape) 4194304 c.deref.result.now (c.deref.ensures.value ∙ c.in_ok-places.ensures.places) c.in_ok-places.ensures.few

pub make-requires-clause-as_many : goal.make-requires-clause-as_many
make-requires-clause-as_many c =
    let one : tally c.args.y.now.shape ≡ product (tally c.args.y.now.shape ∷ []) = omega arith in
    own_many (λ k. pos (first_item c.args.y.now (item_of c.args.y.now k))) (tally c.args.y.now.shape) c.in_ok-bits.bits.items c.deref.result.now c.in_ok-bits.ensures (c.deref.ensures.value ∙ c.in_ok-places.ensures.places)
    ∙ one ∙ sym (ap product (c.shape_of.ensures ∙ ap (λ n. n ∷ []) c.tally.ensures))

pub make-requires-clause-bits : goal.make-requires-clause-bits
make-requires-clause-bits c = own_low c.deref.result.now c.in_ok-bits.bits.items c.in_ok-bits.ensures

pub returns : goal.returns
returns c =
    answer_is c.make.result
    (kept_bits c.shape_of.result (tally c.args.y.now.shape ∷ []) c.in_ok-bits.bits _ (c.shape_of.ensures ∙ ap (λ n. n ∷ []) c.tally.ensures)
    (sieve_bits c.args.y.now c.deref.result.now c.in_ok-bits.bits.items (c.deref.ensures.value ∙ c.in_ok-places.ensures.places) c.in_ok-bits.ensures)) c.make.ensures.limited
