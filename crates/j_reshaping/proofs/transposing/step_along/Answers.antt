use Rattle.std.proofs.Common.{◌+◌, ap, arith}
use Rattle.std.proofs.lemmas.List.{take_rest}
use Rattle.j_definitions.specs.Array.{product}
use Rattle.j_rank.proofs.Products.{rest_within}
use Rattle.j_reshaping.proofs.transposing.step_along.Goals as goal

pub unreachable-requires : goal.unreachable-requires
unreachable-requires c =
    omega (arith, c.in-None.ensures, ap product (take_rest c.args.axes.now (c.args.a + 1)), rest_within c.args.axes.now (c.args.a + 1) 4194304 c.requires.some c.requires.few)
