use Rattle.std.proofs.Common.{refl}
use Rattle.std.specs.Fmt.{digits}
use Rattle.j_display.proofs.rows.rows_of_lists.Goals as goal

pub returns-clause-atom : goal.returns-clause-atom
unfolding digits
returns-clause-atom c = refl

pub returns-clause-negative_atom : goal.returns-clause-negative_atom
unfolding digits
returns-clause-negative_atom c = refl

pub returns-clause-least : goal.returns-clause-least
unfolding digits
returns-clause-least c = refl

pub returns-clause-list : goal.returns-clause-list
unfolding digits
returns-clause-list c = refl

pub returns-clause-list_of_one : goal.returns-clause-list_of_one
unfolding digits
returns-clause-list_of_one c = refl

pub returns-clause-empty_list : goal.returns-clause-empty_list
unfolding digits
returns-clause-empty_list c = refl

pub returns-clause-empty_text : goal.returns-clause-empty_text
unfolding digits
returns-clause-empty_text c = refl

pub returns-clause-character : goal.returns-clause-character
unfolding digits
returns-clause-character c = refl

pub returns-clause-text : goal.returns-clause-text
unfolding digits
returns-clause-text c = refl

pub returns-clause-line_feed : goal.returns-clause-line_feed
unfolding digits
returns-clause-line_feed c = refl
