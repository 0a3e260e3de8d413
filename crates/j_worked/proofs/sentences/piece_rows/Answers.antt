use Rattle.std.proofs.Common.{refl}
use Rattle.j_eval.specs.Applying.{apply}
use Rattle.j_verbs.specs.ByRank.{by_ranks}
use Rattle.j_verbs.specs.Words.{word}
use Rattle.j_worked.proofs.sentences.piece_rows.Goals as goal

pub returns-clause-prefixes : goal.returns-clause-prefixes
unfolding apply word by_ranks
returns-clause-prefixes c = λ s. refl

pub returns-clause-no_prefixes : goal.returns-clause-no_prefixes
unfolding apply word by_ranks
returns-clause-no_prefixes c = λ s. refl

pub returns-clause-zero_where_fills_err : goal.returns-clause-zero_where_fills_err
unfolding apply word by_ranks
returns-clause-zero_where_fills_err c = λ s. refl

pub returns-clause-first_fault_told : goal.returns-clause-first_fault_told
unfolding apply word by_ranks
returns-clause-first_fault_told c = λ s. refl

pub returns-clause-suffixes : goal.returns-clause-suffixes
unfolding apply word by_ranks
returns-clause-suffixes c = λ s. refl

pub returns-clause-infixes : goal.returns-clause-infixes
unfolding apply word by_ranks
returns-clause-infixes c = λ s. refl

pub returns-clause-runs : goal.returns-clause-runs
unfolding apply word by_ranks
returns-clause-runs c = λ s. refl

pub returns-clause-runs_of_none : goal.returns-clause-runs_of_none
unfolding apply word by_ranks
returns-clause-runs_of_none c = λ s. refl

pub returns-clause-by_character : goal.returns-clause-by_character
unfolding apply word by_ranks
returns-clause-by_character c = λ s. refl

pub returns-clause-by_each_number : goal.returns-clause-by_each_number
unfolding apply word by_ranks
returns-clause-by_each_number c = λ s. refl

pub returns-clause-outfixes : goal.returns-clause-outfixes
unfolding apply word by_ranks
returns-clause-outfixes c = λ s. refl

pub returns-clause-oblique_lines : goal.returns-clause-oblique_lines
unfolding apply word by_ranks
returns-clause-oblique_lines c = λ s. refl

pub returns-clause-keys : goal.returns-clause-keys
unfolding apply word by_ranks
returns-clause-keys c = λ s. refl

pub returns-clause-unequal_keys : goal.returns-clause-unequal_keys
unfolding apply word by_ranks
returns-clause-unequal_keys c = λ s. refl

pub returns-clause-cut_at_first : goal.returns-clause-cut_at_first
unfolding apply word by_ranks
returns-clause-cut_at_first c = λ s. refl

pub returns-clause-cut_behind_first : goal.returns-clause-cut_behind_first
unfolding apply word by_ranks
returns-clause-cut_behind_first c = λ s. refl

pub returns-clause-cut_at_last : goal.returns-clause-cut_at_last
unfolding apply word by_ranks
returns-clause-cut_at_last c = λ s. refl

pub returns-clause-cut_before_last : goal.returns-clause-cut_before_last
unfolding apply word by_ranks
returns-clause-cut_before_last c = λ s. refl

pub returns-clause-cut_by_marks : goal.returns-clause-cut_by_marks
unfolding apply word by_ranks
returns-clause-cut_by_marks c = λ s. refl

pub returns-clause-too_few_marks : goal.returns-clause-too_few_marks
unfolding apply word by_ranks
returns-clause-too_few_marks c = λ s. refl

pub returns-clause-no_marks : goal.returns-clause-no_marks
unfolding apply word by_ranks
returns-clause-no_marks c = λ s. refl
