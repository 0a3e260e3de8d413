use Rattle.std.proofs.Common.{◌∙◌}
use Rattle.j_kernels.proofs.Framing.{filled_many, filled_bits, each_filled}
use Rattle.j_kernels.proofs.monads.on_atoms_of.Goals as goal

pub shaped_like-requires-clause-many : goal.shaped_like-requires-clause-many
shaped_like-requires-clause-many g c =
    filled_many g.P.PairVerb.meaning 1 1 _ _ _ c.args.y.now.shape c.fill_pairs-results.result c.fill_pairs-results.ensures
    (c.count-n.ensures.many ∙ c.count-n.ensures.noun.as_many)

pub shaped_like-requires-clause-bits : goal.shaped_like-requires-clause-bits
shaped_like-requires-clause-bits g c = filled_bits _ c.fill_pairs-results.result c.fill_pairs-results.ensures

pub returns : goal.returns
returns g c = c.shaped_like.ensures _ (each_filled g.P.PairVerb.meaning _ c.args.y.now.atoms c.count-n.result c.fill_pairs-results.result c.view-atoms.ensures.atoms c.count-n.ensures.many c.fill_pairs-results.ensures)
