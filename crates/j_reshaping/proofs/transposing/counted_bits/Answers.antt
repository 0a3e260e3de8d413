use Rattle.std.proofs.Common.{◌∙◌, ap, pos}
use Rattle.j_definitions.specs.Array.{number}
use Rattle.j_definitions.specs.Cells.{in_order}
use Rattle.j_reshaping.specs.Axes.{counted}
use Rattle.j_reshaping.proofs.Orderly.{orderly_all, map-map}
use Rattle.j_reshaping.proofs.transposing.counted_bits.Goals as goal

pub returns : goal.returns
returns c =
    ap in_order (map-map (counted c.args.n) (λ b. number (pos b)) c.args.bits.now)
    ∙ orderly_all (λ b. counted c.args.n (number (pos b))) c.args.bits.now c.loop-b.b-index c.loop-b.axes.items c.loop-b-test.false c.loop-b.invariant
