use Rattle.std.proofs.Common.{refl}
use Rattle.j_entity.proofs.rows.rank_rows.Goals as goal

pub returns-clause-plus : goal.returns-clause-plus
returns-clause-plus c = refl

pub returns-clause-base : goal.returns-clause-base
returns-clause-base c = refl

pub returns-clause-two_numbers : goal.returns-clause-two_numbers
returns-clause-two_numbers c = refl

pub returns-clause-negative : goal.returns-clause-negative
returns-clause-negative c = refl

pub returns-clause-infinite_first : goal.returns-clause-infinite_first
returns-clause-infinite_first c = refl

pub returns-clause-four_numbers : goal.returns-clause-four_numbers
returns-clause-four_numbers c = refl

pub returns-clause-table : goal.returns-clause-table
returns-clause-table c = refl

pub returns-clause-product_of_negative : goal.returns-clause-product_of_negative
returns-clause-product_of_negative c = refl

pub returns-clause-product_of_largest : goal.returns-clause-product_of_largest
returns-clause-product_of_largest c = refl

pub returns-clause-fork_of_words : goal.returns-clause-fork_of_words
returns-clause-fork_of_words c = refl
