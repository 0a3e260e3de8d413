use Rattle.std.proofs.Common.{refl}
use Rattle.std.specs.Fmt.{digits}
use Rattle.j_eval.specs.Applying.{apply}
use Rattle.j_verbs.specs.ByRank.{by_ranks}
use Rattle.j_verbs.specs.Words.{word}
use Rattle.j_eval.specs.Stack.{word_at, entity_at, noun_at, verb_at, operand_at, adverb_at, conjunction_at}
use Rattle.j_eval.specs.Meaning.{finished, reduced, monad_at, dyad_at, modified, joined, train, bident, assignment, most_levels}
use Rattle.j_worked.proofs.sentences.modifier_rows.Goals as goal

pub returns-clause-atop : goal.returns-clause-atop
unfolding digits most_levels apply word by_ranks finished reduced monad_at dyad_at modified joined train bident assignment word_at entity_at noun_at verb_at operand_at adverb_at conjunction_at
returns-clause-atop c = refl

pub returns-clause-at : goal.returns-clause-at
unfolding digits most_levels apply word by_ranks finished reduced monad_at dyad_at modified joined train bident assignment word_at entity_at noun_at verb_at operand_at adverb_at conjunction_at
returns-clause-at c = refl

pub returns-clause-over : goal.returns-clause-over
unfolding digits most_levels apply word by_ranks finished reduced monad_at dyad_at modified joined train bident assignment word_at entity_at noun_at verb_at operand_at adverb_at conjunction_at
returns-clause-over c = refl

pub returns-clause-over_one : goal.returns-clause-over_one
unfolding digits most_levels apply word by_ranks finished reduced monad_at dyad_at modified joined train bident assignment word_at entity_at noun_at verb_at operand_at adverb_at conjunction_at
returns-clause-over_one c = refl

pub returns-clause-over_cells : goal.returns-clause-over_cells
unfolding digits most_levels apply word by_ranks finished reduced monad_at dyad_at modified joined train bident assignment word_at entity_at noun_at verb_at operand_at adverb_at conjunction_at
returns-clause-over_cells c = refl

pub returns-clause-appose : goal.returns-clause-appose
unfolding digits most_levels apply word by_ranks finished reduced monad_at dyad_at modified joined train bident assignment word_at entity_at noun_at verb_at operand_at adverb_at conjunction_at
returns-clause-appose c = refl

pub returns-clause-right_part_first : goal.returns-clause-right_part_first
unfolding digits most_levels apply word by_ranks finished reduced monad_at dyad_at modified joined train bident assignment word_at entity_at noun_at verb_at operand_at adverb_at conjunction_at
returns-clause-right_part_first c = refl

pub returns-clause-left_bound : goal.returns-clause-left_bound
unfolding digits most_levels apply word by_ranks finished reduced monad_at dyad_at modified joined train bident assignment word_at entity_at noun_at verb_at operand_at adverb_at conjunction_at
returns-clause-left_bound c = refl

pub returns-clause-right_bound : goal.returns-clause-right_bound
unfolding digits most_levels apply word by_ranks finished reduced monad_at dyad_at modified joined train bident assignment word_at entity_at noun_at verb_at operand_at adverb_at conjunction_at
returns-clause-right_bound c = refl

pub returns-clause-bound_to_two : goal.returns-clause-bound_to_two
unfolding digits most_levels apply word by_ranks finished reduced monad_at dyad_at modified joined train bident assignment word_at entity_at noun_at verb_at operand_at adverb_at conjunction_at
returns-clause-bound_to_two c = refl

pub returns-clause-on_both_sides : goal.returns-clause-on_both_sides
unfolding digits most_levels apply word by_ranks finished reduced monad_at dyad_at modified joined train bident assignment word_at entity_at noun_at verb_at operand_at adverb_at conjunction_at
returns-clause-on_both_sides c = refl

pub returns-clause-swapped : goal.returns-clause-swapped
unfolding digits most_levels apply word by_ranks finished reduced monad_at dyad_at modified joined train bident assignment word_at entity_at noun_at verb_at operand_at adverb_at conjunction_at
returns-clause-swapped c = refl

pub returns-clause-noun_for_each : goal.returns-clause-noun_for_each
unfolding digits most_levels apply word by_ranks finished reduced monad_at dyad_at modified joined train bident assignment word_at entity_at noun_at verb_at operand_at adverb_at conjunction_at
returns-clause-noun_for_each c = refl

pub returns-clause-noun_for_all : goal.returns-clause-noun_for_all
unfolding digits most_levels apply word by_ranks finished reduced monad_at dyad_at modified joined train bident assignment word_at entity_at noun_at verb_at operand_at adverb_at conjunction_at
returns-clause-noun_for_all c = refl

pub returns-clause-unlike_frames : goal.returns-clause-unlike_frames
unfolding digits most_levels apply word by_ranks finished reduced monad_at dyad_at modified joined train bident assignment word_at entity_at noun_at verb_at operand_at adverb_at conjunction_at
returns-clause-unlike_frames c = refl
