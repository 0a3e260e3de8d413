use Rattle.std.proofs.Common.{refl}
use Rattle.std.specs.Fmt.{digits}
use Rattle.j_eval.specs.Applying.{apply}
use Rattle.j_verbs.specs.ByRank.{by_ranks}
use Rattle.j_verbs.specs.Words.{word}
use Rattle.j_eval.specs.Stack.{word_at, entity_at, noun_at, verb_at, operand_at, adverb_at, conjunction_at}
use Rattle.j_eval.specs.Meaning.{finished, reduced, monad_at, dyad_at, modified, joined, train, bident, assignment, most_levels}
use Rattle.j_worked.proofs.sentences.power_rows.Goals as goal

pub returns-clause-three_times : goal.returns-clause-three_times
unfolding digits most_levels apply word by_ranks finished reduced monad_at dyad_at modified joined train bident assignment word_at entity_at noun_at verb_at operand_at adverb_at conjunction_at
returns-clause-three_times c = refl

pub returns-clause-with_left : goal.returns-clause-with_left
unfolding digits most_levels apply word by_ranks finished reduced monad_at dyad_at modified joined train bident assignment word_at entity_at noun_at verb_at operand_at adverb_at conjunction_at
returns-clause-with_left c = refl

pub returns-clause-no_time : goal.returns-clause-no_time
unfolding digits most_levels apply word by_ranks finished reduced monad_at dyad_at modified joined train bident assignment word_at entity_at noun_at verb_at operand_at adverb_at conjunction_at
returns-clause-no_time c = refl

pub returns-clause-until_same : goal.returns-clause-until_same
unfolding digits most_levels apply word by_ranks finished reduced monad_at dyad_at modified joined train bident assignment word_at entity_at noun_at verb_at operand_at adverb_at conjunction_at
returns-clause-until_same c = refl

pub returns-clause-same_at_once : goal.returns-clause-same_at_once
unfolding digits most_levels apply word by_ranks finished reduced monad_at dyad_at modified joined train bident assignment word_at entity_at noun_at verb_at operand_at adverb_at conjunction_at
returns-clause-same_at_once c = refl

pub returns-clause-spent : goal.returns-clause-spent
unfolding digits most_levels apply word by_ranks finished reduced monad_at dyad_at modified joined train bident assignment word_at entity_at noun_at verb_at operand_at adverb_at conjunction_at
returns-clause-spent c = refl

pub returns-clause-spent_without_end : goal.returns-clause-spent_without_end
unfolding digits most_levels apply word by_ranks finished reduced monad_at dyad_at modified joined train bident assignment word_at entity_at noun_at verb_at operand_at adverb_at conjunction_at
returns-clause-spent_without_end c = refl

pub returns-clause-as_a_verb_says : goal.returns-clause-as_a_verb_says
unfolding digits most_levels apply word by_ranks finished reduced monad_at dyad_at modified joined train bident assignment word_at entity_at noun_at verb_at operand_at adverb_at conjunction_at
returns-clause-as_a_verb_says c = refl

pub returns-clause-says_no_number : goal.returns-clause-says_no_number
unfolding digits most_levels apply word by_ranks finished reduced monad_at dyad_at modified joined train bident assignment word_at entity_at noun_at verb_at operand_at adverb_at conjunction_at
returns-clause-says_no_number c = refl

pub returns-clause-says_a_list : goal.returns-clause-says_a_list
unfolding digits most_levels apply word by_ranks finished reduced monad_at dyad_at modified joined train bident assignment word_at entity_at noun_at verb_at operand_at adverb_at conjunction_at
returns-clause-says_a_list c = refl

pub returns-clause-says_less_than_none : goal.returns-clause-says_less_than_none
unfolding digits most_levels apply word by_ranks finished reduced monad_at dyad_at modified joined train bident assignment word_at entity_at noun_at verb_at operand_at adverb_at conjunction_at
returns-clause-says_less_than_none c = refl

pub returns-clause-fault_of_a_time : goal.returns-clause-fault_of_a_time
unfolding digits most_levels apply word by_ranks finished reduced monad_at dyad_at modified joined train bident assignment word_at entity_at noun_at verb_at operand_at adverb_at conjunction_at
returns-clause-fault_of_a_time c = refl

pub returns-clause-no_ranks : goal.returns-clause-no_ranks
unfolding apply word by_ranks
returns-clause-no_ranks c = λ s. refl

pub returns-clause-no_count : goal.returns-clause-no_count
unfolding apply word by_ranks
returns-clause-no_count c = λ s. refl

pub returns-clause-noun_swapped : goal.returns-clause-noun_swapped
unfolding apply word by_ranks
returns-clause-noun_swapped c = λ s. refl
