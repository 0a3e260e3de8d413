use Rattle.std.proofs.Common.{refl}
use Rattle.std.specs.Fmt.{digits}
use Rattle.j_display.proofs.rows.rows_of_tables.Goals as goal

pub returns-clause-table : goal.returns-clause-table
unfolding digits
returns-clause-table c = refl

pub returns-clause-unequal : goal.returns-clause-unequal
unfolding digits
returns-clause-unequal c = refl

pub returns-clause-column : goal.returns-clause-column
unfolding digits
returns-clause-column c = refl

pub returns-clause-one_row : goal.returns-clause-one_row
unfolding digits
returns-clause-one_row c = refl

pub returns-clause-no_rows : goal.returns-clause-no_rows
unfolding digits
returns-clause-no_rows c = refl

pub returns-clause-no_columns : goal.returns-clause-no_columns
unfolding digits
returns-clause-no_columns c = refl

pub returns-clause-characters : goal.returns-clause-characters
unfolding digits
returns-clause-characters c = refl

pub returns-clause-no_characters : goal.returns-clause-no_characters
unfolding digits
returns-clause-no_characters c = refl
