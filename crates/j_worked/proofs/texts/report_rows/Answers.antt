use Rattle.std.proofs.Common.{refl}
use Rattle.std.specs.Fmt.{digits}
use Rattle.j_cli.specs.Run.{next}
use Rattle.j_eval.specs.Applying.{apply}
use Rattle.j_eval.specs.Meaning.{finished, reduced, most_levels}
use Rattle.j_eval.specs.Stack.{word_at, entity_at}
use Rattle.j_verbs.specs.ByRank.{by_ranks}
use Rattle.j_verbs.specs.Words.{word}
use Rattle.j_worked.proofs.texts.report_rows.Goals as goal

pub returns-clause-comment : goal.returns-clause-comment
unfolding next digits finished reduced word_at entity_at apply word by_ranks most_levels
returns-clause-comment c = refl

pub returns-clause-comment_of_no_number : goal.returns-clause-comment_of_no_number
unfolding next digits finished reduced word_at entity_at apply word by_ranks most_levels
returns-clause-comment_of_no_number c = refl

pub returns-clause-comment_of_no_word : goal.returns-clause-comment_of_no_word
unfolding next digits finished reduced word_at entity_at apply word by_ranks most_levels
returns-clause-comment_of_no_word c = refl

pub returns-clause-comment_in_open_quote : goal.returns-clause-comment_in_open_quote
unfolding next digits finished reduced word_at entity_at apply word by_ranks most_levels
returns-clause-comment_in_open_quote c = refl

pub returns-clause-blanks_around_words : goal.returns-clause-blanks_around_words
unfolding next digits finished reduced word_at entity_at apply word by_ranks most_levels
returns-clause-blanks_around_words c = refl

pub returns-clause-blanks_around_no_word : goal.returns-clause-blanks_around_no_word
unfolding next digits finished reduced word_at entity_at apply word by_ranks most_levels
returns-clause-blanks_around_no_word c = refl
