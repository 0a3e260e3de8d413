use Rattle.std.proofs.Common.{refl}
use Rattle.std.specs.Fmt.{digits}
use Rattle.j_eval.specs.Applying.{apply}
use Rattle.j_verbs.specs.ByRank.{by_ranks}
use Rattle.j_verbs.specs.Words.{word}
use Rattle.j_eval.specs.Stack.{word_at, entity_at, noun_at, verb_at, operand_at, adverb_at, conjunction_at}
use Rattle.j_eval.specs.Meaning.{finished, reduced, monad_at, dyad_at, modified, joined, train, bident, assignment, most_levels}
use Rattle.j_worked.proofs.sentences.worked_rows.Goals as goal

pub returns-clause-fork_of_two : goal.returns-clause-fork_of_two
unfolding digits most_levels apply word by_ranks finished reduced monad_at dyad_at modified joined train bident assignment word_at entity_at noun_at verb_at operand_at adverb_at conjunction_at
returns-clause-fork_of_two c = refl

pub returns-clause-hook_of_one : goal.returns-clause-hook_of_one
unfolding digits most_levels apply word by_ranks finished reduced monad_at dyad_at modified joined train bident assignment word_at entity_at noun_at verb_at operand_at adverb_at conjunction_at
returns-clause-hook_of_one c = refl

pub returns-clause-adverb_of_a_conjunction : goal.returns-clause-adverb_of_a_conjunction
unfolding digits most_levels apply word by_ranks finished reduced monad_at dyad_at modified joined train bident assignment word_at entity_at noun_at verb_at operand_at adverb_at conjunction_at
returns-clause-adverb_of_a_conjunction c = refl

pub returns-clause-two_monads : goal.returns-clause-two_monads
unfolding digits most_levels apply word by_ranks finished reduced monad_at dyad_at modified joined train bident assignment word_at entity_at noun_at verb_at operand_at adverb_at conjunction_at
returns-clause-two_monads c = refl

pub returns-clause-monad_then_dyad : goal.returns-clause-monad_then_dyad
unfolding digits most_levels apply word by_ranks finished reduced monad_at dyad_at modified joined train bident assignment word_at entity_at noun_at verb_at operand_at adverb_at conjunction_at
returns-clause-monad_then_dyad c = refl

pub returns-clause-capped_fork : goal.returns-clause-capped_fork
unfolding digits most_levels apply word by_ranks finished reduced monad_at dyad_at modified joined train bident assignment word_at entity_at noun_at verb_at operand_at adverb_at conjunction_at
returns-clause-capped_fork c = refl

pub returns-clause-at_of_two : goal.returns-clause-at_of_two
unfolding digits most_levels apply word by_ranks finished reduced monad_at dyad_at modified joined train bident assignment word_at entity_at noun_at verb_at operand_at adverb_at conjunction_at
returns-clause-at_of_two c = refl

pub returns-clause-constant : goal.returns-clause-constant
unfolding digits most_levels apply word by_ranks finished reduced monad_at dyad_at modified joined train bident assignment word_at entity_at noun_at verb_at operand_at adverb_at conjunction_at
returns-clause-constant c = refl

pub returns-clause-verb_alone : goal.returns-clause-verb_alone
unfolding digits most_levels apply word by_ranks finished reduced monad_at dyad_at modified joined train bident assignment word_at entity_at noun_at verb_at operand_at adverb_at conjunction_at
returns-clause-verb_alone c = refl

pub returns-clause-right_fault_first : goal.returns-clause-right_fault_first
unfolding digits most_levels apply word by_ranks finished reduced monad_at dyad_at modified joined train bident assignment word_at entity_at noun_at verb_at operand_at adverb_at conjunction_at
returns-clause-right_fault_first c = refl

pub returns-clause-number_assigned : goal.returns-clause-number_assigned
unfolding digits most_levels apply word by_ranks finished reduced monad_at dyad_at modified joined train bident assignment word_at entity_at noun_at verb_at operand_at adverb_at conjunction_at
returns-clause-number_assigned c = refl

pub returns-clause-verb_last : goal.returns-clause-verb_last
unfolding digits most_levels apply word by_ranks finished reduced monad_at dyad_at modified joined train bident assignment word_at entity_at noun_at verb_at operand_at adverb_at conjunction_at
returns-clause-verb_last c = refl

pub returns-clause-unclosed : goal.returns-clause-unclosed
unfolding digits most_levels apply word by_ranks finished reduced monad_at dyad_at modified joined train bident assignment word_at entity_at noun_at verb_at operand_at adverb_at conjunction_at
returns-clause-unclosed c = refl

pub returns-clause-spent : goal.returns-clause-spent
unfolding digits most_levels apply word by_ranks finished reduced monad_at dyad_at modified joined train bident assignment word_at entity_at noun_at verb_at operand_at adverb_at conjunction_at
returns-clause-spent c = refl

pub returns-clause-enough_levels : goal.returns-clause-enough_levels
unfolding apply word by_ranks
returns-clause-enough_levels c = λ s. refl

pub returns-clause-too_few_levels : goal.returns-clause-too_few_levels
unfolding apply word by_ranks
returns-clause-too_few_levels c = λ s. refl
