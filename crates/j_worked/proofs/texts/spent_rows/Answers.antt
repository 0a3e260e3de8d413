use Rattle.std.proofs.Common.{refl}
use Rattle.std.specs.Fmt.{digits}
use Rattle.j_cli.specs.Run.{next}
use Rattle.j_eval.specs.Applying.{apply}
use Rattle.j_verbs.specs.ByRank.{by_ranks}
use Rattle.j_verbs.specs.Words.{word}
use Rattle.j_eval.specs.Stack.{word_at, entity_at}
use Rattle.j_eval.specs.Meaning.{finished, reduced, most_levels}
use Rattle.j_worked.proofs.texts.spent_rows.Goals as goal

pub returns-clause-shown_before : goal.returns-clause-shown_before
unfolding next digits finished reduced word_at entity_at apply word by_ranks most_levels
returns-clause-shown_before c = refl

pub returns-clause-spent : goal.returns-clause-spent
unfolding next digits finished reduced word_at entity_at apply word by_ranks most_levels
returns-clause-spent c = refl

pub returns-clause-not_yet_spent : goal.returns-clause-not_yet_spent
unfolding next digits finished reduced word_at entity_at apply word by_ranks most_levels
returns-clause-not_yet_spent c = refl

pub returns-clause-without_words : goal.returns-clause-without_words
unfolding next digits finished reduced word_at entity_at apply word by_ranks most_levels
returns-clause-without_words c = refl

pub returns-clause-error_unspent : goal.returns-clause-error_unspent
unfolding next digits finished reduced word_at entity_at apply word by_ranks most_levels
returns-clause-error_unspent c = refl
