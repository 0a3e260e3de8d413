use Rattle.std.proofs.Common.{◌≡◌, ◌∷◌, ◌*◌, ℕ, List, IfSome, arith, refl, ap, subst, ◌∙◌, sym, length, drop}
use Rattle.std.specs.List.{flat_map}
use Rattle.std.proofs.lemmas.List.{length-map}
use Rattle.j_definitions.specs.Array.{number, product, tally}
use Rattle.j_definitions.specs.Items.{item, item_size}
use Rattle.j_noun.specs.declared.noun.Atoms.TheVariants.{Wholes}
use Rattle.j_noun.specs.Held.{AreAtoms}
use Rattle.j_search.specs.Graded.{IsSortedOf}
use Rattle.j_search.specs.Order.{ordered}
use Rattle.j_search.proofs.Grading.{all_below, sort_answer, length-ordered}
use Rattle.j_search.proofs.Picked.{made_items, answer_is}
use Rattle.j_search.proofs.grades.sort.Goals as goal

pub items_at-requires : goal.items_at-requires
items_at-requires c =
    all_below c.in_ok-places.places.items c.deref.result.now (tally c.args.y.now.shape) (tally c.args.x.now.shape) (omega (arith, c.tally-x_count.ensures, c.tally-y_count.ensures)) c.in_ok-places.ensures.within c.deref.ensures.value

pub returns : goal.returns
returns c =
    sort_answer c.args.direction c.args.x.now c.args.y.now c.items_at.result c.deref.result.now (sym c.if-has_boxes.ensures) (omega (arith, c.tally-x_count.ensures, c.tally-y_count.ensures)) (omega (arith, c.tally-x_count.ensures))
    (c.deref.ensures.value ∙ c.in_ok-places.ensures.order) c.items_at.ensures

pub make-requires-clause-as_many : goal.make-requires-clause-as_many
make-requires-clause-as_many c =
    let sorted : IsSortedOf c.args.direction c.args.x.now c.args.y.now c.in-Some.numbers.items = subst (λ o. IfSome o (λ v. IsSortedOf c.args.direction c.args.x.now c.args.y.now v.items)) c.in-Some.is c.in_ok-numbers.ensures in
    length-map c.in-Some.numbers.items number ∙ sorted.as_many ∙ ap (λ n. n * item_size c.args.x.now.shape) (sym c.tally-x_count.ensures)
    ∙ sym (ap product (c.shape_behind-shape.ensures ∙ ap (λ s. c.tally-x_count.result ∷ s) c.item_axes.ensures.value))

pub returns-in-Some : goal.returns-in-Some
returns-in-Some c =
    let sorted : IsSortedOf c.args.direction c.args.x.now c.args.y.now c.in-Some.numbers.items = subst (λ o. IfSome o (λ v. IsSortedOf c.args.direction c.args.x.now c.args.y.now v.items)) c.in-Some.is c.in_ok-numbers.ensures in
    let ks : List ℕ = ordered c.args.direction c.args.y.now in
    let many : c.tally-x_count.result ≡ length ks = c.if-x_count-y_count-2.true ∙ c.tally-y_count.ensures ∙ sym (length-ordered c.args.direction c.args.y.now) in
    let are : AreAtoms (Wholes c.in-Some.numbers) c.args.x.now.kind (flat_map (item c.args.x.now) ks) = record { kind = sorted.kind; atoms = sorted.atoms; bits = tt } in
    sort_answer c.args.direction c.args.x.now c.args.y.now c.make.result ks (sym c.if-has_boxes.ensures) (omega (arith, c.tally-x_count.ensures, c.tally-y_count.ensures)) (omega (arith, c.tally-x_count.ensures)) refl
    (answer_is c.make.result
    (made_items c.args.x.now (Wholes c.in-Some.numbers) ks c.shape_behind-shape.result (flat_map (item c.args.x.now) ks) are refl
    (c.shape_behind-shape.ensures ∙ ap (λ s. c.tally-x_count.result ∷ s) c.item_axes.ensures.value ∙ ap (λ n. n ∷ drop 1 c.args.x.now.shape) many)) c.make.ensures.limited)
