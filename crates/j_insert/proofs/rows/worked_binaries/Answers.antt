use Rattle.std.proofs.Common.{refl}
use lib.Count.{count_leading_zeros}
use Rattle.j_insert.proofs.rows.worked_binaries.Goals as goal

pub returns-clause-five : goal.returns-clause-five
unfolding count_leading_zeros
returns-clause-five c = refl

pub returns-clause-zero : goal.returns-clause-zero
unfolding count_leading_zeros
returns-clause-zero c = refl

pub returns-clause-one : goal.returns-clause-one
unfolding count_leading_zeros
returns-clause-one c = refl

pub returns-clause-minus_one : goal.returns-clause-minus_one
unfolding count_leading_zeros
returns-clause-minus_one c = refl

pub returns-clause-minus_four : goal.returns-clause-minus_four
unfolding count_leading_zeros
returns-clause-minus_four c = refl

pub returns-clause-list : goal.returns-clause-list
unfolding count_leading_zeros
returns-clause-list c = refl

pub returns-clause-signs : goal.returns-clause-signs
unfolding count_leading_zeros
returns-clause-signs c = refl

pub returns-clause-table : goal.returns-clause-table
unfolding count_leading_zeros
returns-clause-table c = refl

pub returns-clause-least : goal.returns-clause-least
unfolding count_leading_zeros
returns-clause-least c = refl
