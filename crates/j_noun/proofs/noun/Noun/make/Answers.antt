use Rattle.j_noun.specs.Held.{array_kept}
use Rattle.j_noun.proofs.Rules.{made_limited}
use Rattle.j_noun.proofs.noun.Noun.make.Goals as goal

pub returns-clause-limited : goal.returns-clause-limited
returns-clause-limited c = made_limited (array_kept c.args.shape c.args.atoms) c.made.result c.made.ensures.ok c.made.ensures.err
