use Rattle.std.proofs.Common.{◌∙◌, ap, arith}
use Rattle.j_noun.specs.Viewed.{viewed}
use Rattle.j_kernels.proofs.Storage.{said_more, said_ended}
use Rattle.j_kernels.proofs.alike_slowly.fill_slowly.Goals as goal

pub loop-k-preserved : goal.loop-k-preserved
loop-k-preserved g c =
    said_more g.L.Likeness.said c.args.left c.args.right (viewed c.args.x) (viewed c.args.y) c.loop-k.k c.from.result c.loop-k.out.items _ c.said-said.result c.loop-k.invariant
    c.in-Ok.ensures.items c.from.ensures (c.said-said.ensures ∙ ap g.L.Likeness.said c.atom_matches.ensures)

pub returns : goal.returns
returns g c = said_ended g.L.Likeness.said c.args.left c.args.right c.loop-k.k c.args.n (viewed c.args.x) (viewed c.args.y) c.loop-k.out.items (omega arith) c.loop-k.invariant
