use Rattle.std.proofs.Common.{refl}
use Rattle.std.specs.Fmt.{digits}
use Rattle.j_cli.specs.Run.{next}
use Rattle.j_eval.specs.Applying.{apply}
use Rattle.j_verbs.specs.ByRank.{by_ranks}
use Rattle.j_verbs.specs.Words.{word}
use Rattle.j_eval.specs.Stack.{word_at, entity_at}
use Rattle.j_eval.specs.Meaning.{finished, reduced, most_levels}
use Rattle.j_worked.proofs.texts.worked_texts.Goals as goal

pub returns-clause-sum_with_a_list : goal.returns-clause-sum_with_a_list
unfolding next digits finished reduced word_at entity_at apply word by_ranks most_levels
returns-clause-sum_with_a_list c = refl

pub returns-clause-unlike_lengths : goal.returns-clause-unlike_lengths
unfolding next digits finished reduced word_at entity_at apply word by_ranks most_levels
returns-clause-unlike_lengths c = refl

pub returns-clause-sum_too_large : goal.returns-clause-sum_too_large
unfolding next digits finished reduced word_at entity_at apply word by_ranks most_levels
returns-clause-sum_too_large c = refl

pub returns-clause-blank_lines : goal.returns-clause-blank_lines
unfolding next digits finished reduced word_at entity_at apply word by_ranks most_levels
returns-clause-blank_lines c = refl

pub returns-clause-carriage_return : goal.returns-clause-carriage_return
unfolding next digits finished reduced word_at entity_at apply word by_ranks most_levels
returns-clause-carriage_return c = refl

pub returns-clause-number_too_large : goal.returns-clause-number_too_large
unfolding next digits finished reduced word_at entity_at apply word by_ranks most_levels
returns-clause-number_too_large c = refl

pub returns-clause-no_line_feed : goal.returns-clause-no_line_feed
unfolding next digits finished reduced word_at entity_at apply word by_ranks most_levels
returns-clause-no_line_feed c = refl

pub returns-clause-right_to_left : goal.returns-clause-right_to_left
unfolding next digits finished reduced word_at entity_at apply word by_ranks most_levels
returns-clause-right_to_left c = refl

pub returns-clause-misspelled : goal.returns-clause-misspelled
unfolding next digits finished reduced word_at entity_at apply word by_ranks most_levels
returns-clause-misspelled c = refl

pub returns-clause-least_number : goal.returns-clause-least_number
unfolding next digits finished reduced word_at entity_at apply word by_ranks most_levels
returns-clause-least_number c = refl

pub returns-clause-least_number_negated : goal.returns-clause-least_number_negated
unfolding next digits finished reduced word_at entity_at apply word by_ranks most_levels
returns-clause-least_number_negated c = refl

pub returns-clause-last_carriage_return : goal.returns-clause-last_carriage_return
unfolding next digits finished reduced word_at entity_at apply word by_ranks most_levels
returns-clause-last_carriage_return c = refl

pub returns-clause-bases_and_powers : goal.returns-clause-bases_and_powers
unfolding next digits finished reduced word_at entity_at apply word by_ranks most_levels
returns-clause-bases_and_powers c = refl

pub returns-clause-no_number : goal.returns-clause-no_number
unfolding next digits finished reduced word_at entity_at apply word by_ranks most_levels
returns-clause-no_number c = refl

pub returns-clause-left_out : goal.returns-clause-left_out
unfolding next digits finished reduced word_at entity_at apply word by_ranks most_levels
returns-clause-left_out c = refl

pub returns-clause-open_quote : goal.returns-clause-open_quote
unfolding next digits finished reduced word_at entity_at apply word by_ranks most_levels
returns-clause-open_quote c = refl

pub returns-clause-verb_last : goal.returns-clause-verb_last
unfolding next digits finished reduced word_at entity_at apply word by_ranks most_levels
returns-clause-verb_last c = refl

pub returns-clause-fork_and_hook : goal.returns-clause-fork_and_hook
unfolding next digits finished reduced word_at entity_at apply word by_ranks most_levels
returns-clause-fork_and_hook c = refl

pub returns-clause-adverb_of_at : goal.returns-clause-adverb_of_at
unfolding next digits finished reduced word_at entity_at apply word by_ranks most_levels
returns-clause-adverb_of_at c = refl

pub returns-clause-verb_shown : goal.returns-clause-verb_shown
unfolding next digits finished reduced word_at entity_at apply word by_ranks most_levels
returns-clause-verb_shown c = refl

pub returns-clause-nearest_table_row : goal.returns-clause-nearest_table_row
unfolding next digits finished reduced word_at entity_at apply word by_ranks most_levels
returns-clause-nearest_table_row c = refl

pub returns-clause-text : goal.returns-clause-text
unfolding next digits finished reduced word_at entity_at apply word by_ranks most_levels
returns-clause-text c = refl

pub returns-clause-text_negated : goal.returns-clause-text_negated
unfolding next digits finished reduced word_at entity_at apply word by_ranks most_levels
returns-clause-text_negated c = refl
