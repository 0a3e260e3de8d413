use Rattle.std.proofs.Common.{refl}
use Rattle.j_trains.proofs.rows.worked_rows.Goals as goal

pub returns-clause-fork : goal.returns-clause-fork
returns-clause-fork c = refl

pub returns-clause-noun_fork : goal.returns-clause-noun_fork
returns-clause-noun_fork c = refl

pub returns-clause-rank_list : goal.returns-clause-rank_list
returns-clause-rank_list c = refl

pub returns-clause-hook : goal.returns-clause-hook
returns-clause-hook c = refl

pub returns-clause-two_adverbs : goal.returns-clause-two_adverbs
returns-clause-two_adverbs c = refl

pub returns-clause-right : goal.returns-clause-right
returns-clause-right c = refl

pub returns-clause-right_noun : goal.returns-clause-right_noun
returns-clause-right_noun c = refl

pub returns-clause-left : goal.returns-clause-left
returns-clause-left c = refl

pub returns-clause-left_noun : goal.returns-clause-left_noun
returns-clause-left_noun c = refl

pub returns-clause-two_nouns : goal.returns-clause-two_nouns
returns-clause-two_nouns c = refl

pub returns-clause-noun_and_verb : goal.returns-clause-noun_and_verb
returns-clause-noun_and_verb c = refl

pub returns-clause-verb_and_adverb : goal.returns-clause-verb_and_adverb
returns-clause-verb_and_adverb c = refl

pub returns-clause-two_conjunctions : goal.returns-clause-two_conjunctions
returns-clause-two_conjunctions c = refl

pub returns-clause-right_applied : goal.returns-clause-right_applied
returns-clause-right_applied c = refl

pub returns-clause-left_applied : goal.returns-clause-left_applied
returns-clause-left_applied c = refl

pub returns-clause-left_first : goal.returns-clause-left_first
returns-clause-left_first c = refl

pub returns-clause-highest : goal.returns-clause-highest
returns-clause-highest c = refl

pub returns-clause-too_high : goal.returns-clause-too_high
returns-clause-too_high c = refl

pub returns-clause-highest_adverb : goal.returns-clause-highest_adverb
returns-clause-highest_adverb c = refl

pub returns-clause-adverb_too_high : goal.returns-clause-adverb_too_high
returns-clause-adverb_too_high c = refl
