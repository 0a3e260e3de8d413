use Rattle.j_kernels.specs.Scalars.{of_numbers}
use Rattle.j_kernels.proofs.BitLaws.{filled_bits_again}
use Rattle.j_kernels.proofs.bits.on_bits.Goals as goal

pub returns : goal.returns
returns g c =
    filled_bits_again (of_numbers g.V.NumberVerb.of) c.args.left c.args.right c.args.n c.args.x.now c.args.y.now c.fill.result c.requires.bits_left c.requires.bits_right c.fill.ensures
