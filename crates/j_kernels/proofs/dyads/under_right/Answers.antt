use Rattle.std.proofs.Common.{◌∙◌, length, drop, refl}
use Rattle.j_definitions.specs.Array.{product}
use Rattle.j_definitions.specs.Cells.{Agreed}
use Rattle.j_kernels.proofs.Framing.{repeats_fit, filled_many, filled_bits, answers_filled}
use Rattle.j_kernels.proofs.dyads.under_right.Goals as goal

pub fill_pairs-results-requires-clause-right : goal.fill_pairs-results-requires-clause-right
fill_pairs-results-requires-clause-right g c =
    let fits = repeats_fit c.args.y.now c.args.x.now c.count.result c.count-n.result c.repeats-right.result c.count.ensures.many c.count-n.ensures.many c.count.ensures.noun c.count-n.ensures.noun c.requires c.repeats-right.ensures in
    rw c.view-2.ensures.atoms fits.0

pub shaped_like-requires-clause-many : goal.shaped_like-requires-clause-many
shaped_like-requires-clause-many g c =
    filled_many g.P.PairVerb.meaning 1 c.repeats-right.result _ _ _ c.args.x.now.shape c.fill_pairs-results.result c.fill_pairs-results.ensures
    (c.count-n.ensures.many ∙ c.count-n.ensures.noun.as_many)

pub shaped_like-requires-clause-bits : goal.shaped_like-requires-clause-bits
shaped_like-requires-clause-bits g c = filled_bits _ c.fill_pairs-results.result c.fill_pairs-results.ensures

pub returns : goal.returns
returns g c =
    let fits = repeats_fit c.args.y.now c.args.x.now c.count.result c.count-n.result c.repeats-right.result c.count.ensures.many c.count-n.ensures.many c.count.ensures.noun c.count-n.ensures.noun c.requires c.repeats-right.ensures in
    let agreed : Agreed = record { frame = c.args.x.now.shape; left = 1; right = product (drop (length c.args.y.now.shape) c.args.x.now.shape) } in
    c.shaped_like.ensures _
    (answers_filled g.P.PairVerb.meaning agreed _ _ _ _ 1 c.repeats-right.result _ c.fill_pairs-results.result c.view.ensures.atoms c.view-2.ensures.atoms
    (c.count-n.ensures.many ∙ c.count-n.ensures.noun.as_many) (λ p. (refl, fits.1 p)) c.fill_pairs-results.ensures)
