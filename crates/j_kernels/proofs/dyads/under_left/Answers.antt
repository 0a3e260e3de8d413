use Rattle.std.proofs.Common.{◌∙◌, length, drop, refl}
use Rattle.j_definitions.specs.Array.{product}
use Rattle.j_definitions.specs.Cells.{Agreed}
use Rattle.j_kernels.proofs.Framing.{repeats_fit, filled_many, filled_bits, answers_filled}
use Rattle.j_kernels.proofs.dyads.under_left.Goals as goal

pub fill_pairs-results-requires-clause-left : goal.fill_pairs-results-requires-clause-left
fill_pairs-results-requires-clause-left g c =
    let fits = repeats_fit c.args.x.now c.args.y.now c.count.result c.count-n.result c.repeats-left.result c.count.ensures.many c.count-n.ensures.many c.count.ensures.noun c.count-n.ensures.noun c.requires c.repeats-left.ensures in
    rw c.view.ensures.atoms fits.0

pub shaped_like-requires-clause-many : goal.shaped_like-requires-clause-many
shaped_like-requires-clause-many g c =
    filled_many g.P.PairVerb.meaning c.repeats-left.result 1 _ _ _ c.args.y.now.shape c.fill_pairs-results.result c.fill_pairs-results.ensures
    (c.count-n.ensures.many ∙ c.count-n.ensures.noun.as_many)

pub shaped_like-requires-clause-bits : goal.shaped_like-requires-clause-bits
shaped_like-requires-clause-bits g c = filled_bits _ c.fill_pairs-results.result c.fill_pairs-results.ensures

pub returns : goal.returns
returns g c =
    let fits = repeats_fit c.args.x.now c.args.y.now c.count.result c.count-n.result c.repeats-left.result c.count.ensures.many c.count-n.ensures.many c.count.ensures.noun c.count-n.ensures.noun c.requires c.repeats-left.ensures in
    let agreed : Agreed = record { frame = c.args.y.now.shape; left = product (drop (length c.args.x.now.shape) c.args.y.now.shape); right = 1 } in
    c.shaped_like.ensures _
    (answers_filled g.P.PairVerb.meaning agreed _ _ _ _ c.repeats-left.result 1 _ c.fill_pairs-results.result c.view.ensures.atoms c.view-2.ensures.atoms
    (c.count-n.ensures.many ∙ c.count-n.ensures.noun.as_many) (λ p. (fits.1 p, refl)) c.fill_pairs-results.ensures)
