use Rattle.std.proofs.Common.{◌≡◌, [], ◌∷◌, pos, Option, Some, None, Ok, refl}
use Rattle.j_leaves.specs.declared.primitive.Primitive.TheVariants as p
use Rattle.j_names.specs.Names.{Scopes, look, simple}
use Rattle.j_names.specs.Rows.{f}
use Rattle.j_entity.specs.Ranks.{endless}
use Rattle.j_entity.specs.Tree.{EntityTree, primitive, named, a_noun, a_verb}
use Rattle.j_worked.specs.Sentences.{atom}
use Rattle.std.specs.Fmt.{digits}
use Rattle.j_eval.specs.Applying.{apply}
use Rattle.j_verbs.specs.ByRank.{by_ranks}
use Rattle.j_verbs.specs.Words.{word}
use Rattle.j_eval.specs.Stack.{word_at, entity_at, noun_at, verb_at, operand_at, adverb_at, conjunction_at}
use Rattle.j_eval.specs.Meaning.{finished, reduced, monad_at, dyad_at, modified, joined, train, bident, assignment, most_levels}
use Rattle.j_worked.proofs.sentences.name_rows.Goals as goal

-- the finite map has what is looked up
held : (names : Scopes) (o : Option EntityTree) → look names f ≡ Ok o → simple names (102 ∷ []) ≡ o
held names o h = cc

pub returns-clause-assigned : goal.returns-clause-assigned
unfolding digits most_levels apply word by_ranks finished reduced monad_at dyad_at modified joined train bident assignment word_at entity_at noun_at verb_at operand_at adverb_at conjunction_at
returns-clause-assigned c = refl

pub returns-clause-assigned_within : goal.returns-clause-assigned_within
unfolding digits most_levels apply word by_ranks finished reduced monad_at dyad_at modified joined train bident assignment word_at entity_at noun_at verb_at operand_at adverb_at conjunction_at
returns-clause-assigned_within c = refl

pub returns-clause-in_parentheses : goal.returns-clause-in_parentheses
unfolding digits most_levels apply word by_ranks finished reduced monad_at dyad_at modified joined train bident assignment word_at entity_at noun_at verb_at operand_at adverb_at conjunction_at
returns-clause-in_parentheses c = refl

pub returns-clause-no_value : goal.returns-clause-no_value
unfolding digits most_levels apply word by_ranks finished reduced monad_at dyad_at modified joined train bident assignment word_at entity_at noun_at verb_at operand_at adverb_at conjunction_at
returns-clause-no_value c = λ names h. rw (held names None h) (rw (held names None h) refl)

pub returns-clause-noun_by_value : goal.returns-clause-noun_by_value
unfolding digits most_levels apply word by_ranks finished reduced monad_at dyad_at modified joined train bident assignment word_at entity_at noun_at verb_at operand_at adverb_at conjunction_at
returns-clause-noun_by_value c = λ names h. rw (held names (Some (a_noun (atom (pos 5)))) h) (rw (held names (Some (a_noun (atom (pos 5)))) h) refl)

pub returns-clause-verb_stays : goal.returns-clause-verb_stays
unfolding digits most_levels apply word by_ranks finished reduced monad_at dyad_at modified joined train bident assignment word_at entity_at noun_at verb_at operand_at adverb_at conjunction_at
returns-clause-verb_stays c = λ names h. rw (held names (Some (a_verb (primitive p.Plus))) h) (rw (held names (Some (a_verb (primitive p.Plus))) h) refl)

pub returns-clause-each_cell : goal.returns-clause-each_cell
unfolding digits most_levels apply word by_ranks finished reduced monad_at dyad_at modified joined train bident assignment word_at entity_at noun_at verb_at operand_at adverb_at conjunction_at
returns-clause-each_cell c = λ names h. rw (held names (Some (a_verb (primitive p.Minus))) h) (rw (held names (Some (a_verb (primitive p.Minus))) h) refl)

pub returns-clause-no_verb : goal.returns-clause-no_verb
unfolding digits most_levels apply word by_ranks finished reduced monad_at dyad_at modified joined train bident assignment word_at entity_at noun_at verb_at operand_at adverb_at conjunction_at
returns-clause-no_verb c = λ names h. rw (held names (Some (a_noun (atom (pos 5)))) h) refl

pub returns-clause-itself : goal.returns-clause-itself
unfolding digits most_levels apply word by_ranks finished reduced monad_at dyad_at modified joined train bident assignment word_at entity_at noun_at verb_at operand_at adverb_at conjunction_at
returns-clause-itself c = λ names h. rw (held names (Some (a_verb (named f endless))) h) (rw (held names (Some (a_verb (named f endless))) h) (rw (held names (Some (a_verb (named f endless))) h) refl))

pub returns-clause-spent : goal.returns-clause-spent
unfolding digits most_levels apply word by_ranks finished reduced monad_at dyad_at modified joined train bident assignment word_at entity_at noun_at verb_at operand_at adverb_at conjunction_at
returns-clause-spent c = λ names h. rw (held names (Some (a_verb (primitive p.Minus))) h) refl

pub returns-clause-locative_assigned : goal.returns-clause-locative_assigned
unfolding digits most_levels apply word by_ranks finished reduced monad_at dyad_at modified joined train bident assignment word_at entity_at noun_at verb_at operand_at adverb_at conjunction_at
returns-clause-locative_assigned c = refl
