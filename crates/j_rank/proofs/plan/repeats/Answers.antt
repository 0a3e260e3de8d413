use Rattle.std.proofs.Common.{arith, ap}
use Rattle.std.proofs.lemmas.List.{take_rest}
use Rattle.j_definitions.specs.Array.{product}
use Rattle.j_rank.proofs.Products.{rest_within}
use Rattle.j_rank.proofs.plan.repeats.Goals as goal

pub returns-in-None-clause-repeats : goal.returns-in-None-clause-repeats
returns-in-None-clause-repeats c = record {
  own = c.requires.own;
  run = λ some. absurd (omega (arith, c.in-None.ensures, ap product (take_rest c.args.frame.now c.args.axes), rest_within c.args.frame.now c.args.axes 4194304 some c.requires.few));
}
