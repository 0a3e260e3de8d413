use Rattle.std.proofs.Common.{◌∙◌, ap}
use Rattle.j_definitions.specs.Array.{number}
use Rattle.j_definitions.specs.Cells.{in_order}
use Rattle.j_reshaping.specs.Axes.{counted}
use Rattle.j_reshaping.proofs.Orderly.{orderly_all, map-map}
use Rattle.j_reshaping.proofs.transposing.counted_wholes.Goals as goal

pub returns : goal.returns
returns c =
    ap in_order (map-map (counted c.args.n) number c.args.wholes.now)
    ∙ orderly_all (λ z. counted c.args.n (number z)) c.args.wholes.now c.loop-z.z-index c.loop-z.axes.items c.loop-z-test.false c.loop-z.invariant
