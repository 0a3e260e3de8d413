use Rattle.std.proofs.Common.{refl}
use Rattle.std.specs.Fmt.{digits}
use Rattle.j_eval.specs.Applying.{apply}
use Rattle.j_eval.specs.Meaning.{most_levels}
use Rattle.j_verbs.specs.ByRank.{by_ranks}
use Rattle.j_verbs.specs.Words.{word}
use Rattle.j_worked.proofs.sentences.several_rows.Goals as goal

pub returns-clause-two : goal.returns-clause-two
unfolding digits most_levels apply word by_ranks
returns-clause-two c = refl

pub returns-clause-blanks : goal.returns-clause-blanks
unfolding digits most_levels apply word by_ranks
returns-clause-blanks c = refl

pub returns-clause-to_all : goal.returns-clause-to_all
unfolding digits most_levels apply word by_ranks
returns-clause-to_all c = refl

pub returns-clause-box_to_all : goal.returns-clause-box_to_all
unfolding digits most_levels apply word by_ranks
returns-clause-box_to_all c = refl

pub returns-clause-opened : goal.returns-clause-opened
unfolding digits most_levels apply word by_ranks
returns-clause-opened c = refl

pub returns-clause-too_many : goal.returns-clause-too_many
unfolding digits most_levels apply word by_ranks
returns-clause-too_many c = refl

pub returns-clause-too_few : goal.returns-clause-too_few
unfolding digits most_levels apply word by_ranks
returns-clause-too_few c = refl

pub returns-clause-one_whole : goal.returns-clause-one_whole
unfolding digits most_levels apply word by_ranks
returns-clause-one_whole c = refl

pub returns-clause-one_verb : goal.returns-clause-one_verb
unfolding digits most_levels apply word by_ranks
returns-clause-one_verb c = refl

pub returns-clause-several_verbs : goal.returns-clause-several_verbs
unfolding digits most_levels apply word by_ranks
returns-clause-several_verbs c = refl

pub returns-clause-no_name : goal.returns-clause-no_name
unfolding digits most_levels apply word by_ranks
returns-clause-no_name c = refl

pub returns-clause-no_names : goal.returns-clause-no_names
unfolding digits most_levels apply word by_ranks
returns-clause-no_names c = refl

pub returns-clause-number : goal.returns-clause-number
unfolding digits most_levels apply word by_ranks
returns-clause-number c = refl
