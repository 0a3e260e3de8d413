use Rattle.std.proofs.Common.{◌≡◌, ◌<◌, ◌≤◌, ◌∙◌, ap, sym, subst, arith, map, length, ℕ, MatchOption}
use Rattle.std.specs.List.{All}
use Rattle.std.proofs.lemmas.List.{take_all}
use Rattle.j_definitions.specs.Array.{Array, product, IsNoun}
use Rattle.j_indices.specs.Choices.{choices}
use Rattle.j_select.proofs.Listings.{choices_size, frame_size, sizes_more, nouns_more}
use Rattle.j_select.proofs.choosing.count_choices.Goals as goal

pub loop-content-preserved : goal.loop-content-preserved
loop-content-preserved c =
    let less : c.loop-content.content-index < length c.args.contents.now = omega (arith, c.loop-content-test.true) in (
      sizes_more c.args.contents.now c.loop-content.content-index c.content-item.result c.in-Some.size c.loop-content.sizes.items c.push.new.self.items less c.content-item.is
          (c.in-Some.ensures.0 ∙ ap product c.axes.ensures.value ∙ sym c.view.ensures.noun.as_many) c.loop-content.invariant.0 c.in-Ok.ensures.items,
      nouns_more c.args.contents.now c.loop-content.content-index c.content-item.result less c.content-item.is c.view.ensures.noun c.loop-content.invariant.1,
    )

pub returns-clause-frame : goal.returns-clause-frame
returns-clause-frame c = sym (frame_size c.args.contents.now (subst (All IsNoun) (take_all c.loop-content.content-index c.args.contents.now (omega (arith, c.loop-content-test.false))) c.loop-content.invariant.1))

pub returns-clause-count : goal.returns-clause-count
returns-clause-count c =
    let many : product c.deref.result.now ≡ length (choices (map (λ (a : Array). a.atoms) c.args.contents.now)) =
    ap product (c.deref.ensures.value ∙ c.loop-content.invariant.0 ∙ ap (map (λ (a : Array). length a.atoms)) (take_all c.loop-content.content-index c.args.contents.now (omega arith))) ∙ sym (choices_size c.args.contents.now) in
    subst (λ (m : ℕ). MatchOption c.size_within-2.result (4194304 < m) (λ n. (n ≡ m) × (n ≤ 4194304))) many c.size_within-2.ensures
