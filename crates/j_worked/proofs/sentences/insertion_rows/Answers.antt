use Rattle.std.proofs.Common.{refl}
use Rattle.j_eval.specs.Applying.{apply}
use Rattle.j_verbs.specs.ByRank.{by_ranks}
use Rattle.j_verbs.specs.Words.{word}
use Rattle.j_worked.proofs.sentences.insertion_rows.Goals as goal

pub returns-clause-from_the_right : goal.returns-clause-from_the_right
unfolding apply word by_ranks
returns-clause-from_the_right c = λ s. refl

pub returns-clause-first_from_the_right : goal.returns-clause-first_from_the_right
unfolding apply word by_ranks
returns-clause-first_from_the_right c = λ s. refl

pub returns-clause-fault_from_the_right : goal.returns-clause-fault_from_the_right
unfolding apply word by_ranks
returns-clause-fault_from_the_right c = λ s. refl

pub returns-clause-an_atom : goal.returns-clause-an_atom
unfolding apply word by_ranks
returns-clause-an_atom c = λ s. refl

pub returns-clause-one_item : goal.returns-clause-one_item
unfolding apply word by_ranks
returns-clause-one_item c = λ s. refl

pub returns-clause-one_character : goal.returns-clause-one_character
unfolding apply word by_ranks
returns-clause-one_character c = λ s. refl

pub returns-clause-none : goal.returns-clause-none
unfolding apply word by_ranks
returns-clause-none c = λ s. refl

pub returns-clause-none_of_times : goal.returns-clause-none_of_times
unfolding apply word by_ranks
returns-clause-none_of_times c = λ s. refl

pub returns-clause-no_rows : goal.returns-clause-no_rows
unfolding apply word by_ranks
returns-clause-no_rows c = λ s. refl

pub returns-clause-no_columns : goal.returns-clause-no_columns
unfolding apply word by_ranks
returns-clause-no_columns c = λ s. refl

pub returns-clause-rows : goal.returns-clause-rows
unfolding apply word by_ranks
returns-clause-rows c = λ s. refl

pub returns-clause-no_identity : goal.returns-clause-no_identity
unfolding apply word by_ranks
returns-clause-no_identity c = λ s. refl

pub returns-clause-no_identity_of_train : goal.returns-clause-no_identity_of_train
unfolding apply word by_ranks
returns-clause-no_identity_of_train c = λ s. refl

pub returns-clause-joined : goal.returns-clause-joined
unfolding apply word by_ranks
returns-clause-joined c = λ s. refl

pub returns-clause-table : goal.returns-clause-table
unfolding apply word by_ranks
returns-clause-table c = λ s. refl

pub returns-clause-table_of_whole : goal.returns-clause-table_of_whole
unfolding apply word by_ranks
returns-clause-table_of_whole c = λ s. refl

pub returns-clause-product : goal.returns-clause-product
unfolding apply word by_ranks
returns-clause-product c = λ s. refl

pub returns-clause-product_of_rows : goal.returns-clause-product_of_rows
unfolding apply word by_ranks
returns-clause-product_of_rows c = λ s. refl

pub returns-clause-product_of_one : goal.returns-clause-product_of_one
unfolding apply word by_ranks
returns-clause-product_of_one c = λ s. refl

pub returns-clause-no_identity_of_name : goal.returns-clause-no_identity_of_name
unfolding apply word by_ranks
returns-clause-no_identity_of_name c = λ s. refl
