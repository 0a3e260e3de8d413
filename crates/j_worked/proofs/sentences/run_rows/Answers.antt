use Rattle.std.proofs.Common.{refl}
use Rattle.std.specs.Fmt.{digits}
use Rattle.j_eval.specs.Applying.{apply}
use Rattle.j_eval.specs.Meaning.{most_levels}
use Rattle.j_verbs.specs.ByRank.{by_ranks}
use Rattle.j_verbs.specs.Words.{word}
use Rattle.j_worked.proofs.sentences.run_rows.Goals as goal

pub returns-clause-shows : goal.returns-clause-shows
unfolding digits most_levels apply word by_ranks
returns-clause-shows c = refl

pub returns-clause-behind : goal.returns-clause-behind
unfolding digits most_levels apply word by_ranks
returns-clause-behind c = refl

pub returns-clause-no_dyad : goal.returns-clause-no_dyad
unfolding digits most_levels apply word by_ranks
returns-clause-no_dyad c = refl

pub returns-clause-right_first : goal.returns-clause-right_first
unfolding digits most_levels apply word by_ranks
returns-clause-right_first c = refl

pub returns-clause-switches : goal.returns-clause-switches
unfolding digits most_levels apply word by_ranks
returns-clause-switches c = refl

pub returns-clause-switches_by_box : goal.returns-clause-switches_by_box
unfolding digits most_levels apply word by_ranks
returns-clause-switches_by_box c = refl

pub returns-clause-number : goal.returns-clause-number
unfolding digits most_levels apply word by_ranks
returns-clause-number c = refl

pub returns-clause-empty : goal.returns-clause-empty
unfolding digits most_levels apply word by_ranks
returns-clause-empty c = refl

pub returns-clause-blank : goal.returns-clause-blank
unfolding digits most_levels apply word by_ranks
returns-clause-blank c = refl

pub returns-clause-low : goal.returns-clause-low
unfolding digits most_levels apply word by_ranks
returns-clause-low c = refl

pub returns-clause-no_dyad_either : goal.returns-clause-no_dyad_either
unfolding digits most_levels apply word by_ranks
returns-clause-no_dyad_either c = refl

pub returns-clause-back : goal.returns-clause-back
unfolding digits most_levels apply word by_ranks
returns-clause-back c = λ s. refl

pub returns-clause-back_after_error : goal.returns-clause-back_after_error
unfolding digits most_levels apply word by_ranks
returns-clause-back_after_error c = λ s. refl
