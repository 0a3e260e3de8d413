use Rattle.std.proofs.Common.{refl}
use Rattle.std.specs.Fmt.{digits}
use Rattle.j_eval.specs.Applying.{apply}
use Rattle.j_verbs.specs.ByRank.{by_ranks}
use Rattle.j_verbs.specs.Words.{word}
use Rattle.j_eval.specs.Stack.{word_at, entity_at, noun_at, verb_at, operand_at, adverb_at, conjunction_at}
use Rattle.j_eval.specs.Meaning.{finished, reduced, monad_at, dyad_at, modified, joined, train, bident, assignment, most_levels}
use Rattle.j_worked.proofs.sentences.under_rows.Goals as goal

pub returns-clause-with_steps : goal.returns-clause-with_steps
unfolding digits most_levels apply word by_ranks finished reduced monad_at dyad_at modified joined train bident assignment word_at entity_at noun_at verb_at operand_at adverb_at conjunction_at
returns-clause-with_steps c = refl

pub returns-clause-one_more : goal.returns-clause-one_more
unfolding apply word by_ranks
returns-clause-one_more c = λ s. refl

pub returns-clause-one_less : goal.returns-clause-one_less
unfolding apply word by_ranks
returns-clause-one_less c = λ s. refl

pub returns-clause-of_itself : goal.returns-clause-of_itself
unfolding apply word by_ranks
returns-clause-of_itself c = λ s. refl

pub returns-clause-each_cell : goal.returns-clause-each_cell
unfolding apply word by_ranks
returns-clause-each_cell c = λ s. refl

pub returns-clause-right_part_first : goal.returns-clause-right_part_first
unfolding apply word by_ranks
returns-clause-right_part_first c = λ s. refl

pub returns-clause-fault_of_obverse : goal.returns-clause-fault_of_obverse
unfolding apply word by_ranks
returns-clause-fault_of_obverse c = λ s. refl

pub returns-clause-no_obverse : goal.returns-clause-no_obverse
unfolding apply word by_ranks
returns-clause-no_obverse c = λ s. refl

pub returns-clause-amended : goal.returns-clause-amended
unfolding digits most_levels apply word by_ranks finished reduced monad_at dyad_at modified joined train bident assignment word_at entity_at noun_at verb_at operand_at adverb_at conjunction_at
returns-clause-amended c = refl

pub returns-clause-amended_without : goal.returns-clause-amended_without
unfolding digits most_levels apply word by_ranks finished reduced monad_at dyad_at modified joined train bident assignment word_at entity_at noun_at verb_at operand_at adverb_at conjunction_at
returns-clause-amended_without c = refl

pub returns-clause-amended_by_verb : goal.returns-clause-amended_by_verb
unfolding apply word by_ranks
returns-clause-amended_by_verb c = λ s. refl
