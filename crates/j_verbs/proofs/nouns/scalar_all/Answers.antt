use Rattle.std.proofs.Common.{sym}
use Rattle.std.specs.Option.{option_copied}
use Rattle.j_verbs.proofs.Answers.{scalar_gives}
use Rattle.j_verbs.proofs.nouns.scalar_all.Goals as goal

pub returns : goal.returns
returns c =
    scalar_gives c.args.v c.args.p c.args.r (option_copied c.args.x) c.args.y.now c.scalar.result (sym c.requires.valence) c.in_ok-are_zero.ensures c.are_nouns.ensures.left c.are_nouns.ensures.right c.scalar.ensures
