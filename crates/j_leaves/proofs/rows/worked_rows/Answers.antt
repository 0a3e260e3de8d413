use Rattle.std.proofs.Common.{refl}
use Rattle.j_leaves.proofs.rows.worked_rows.Goals as goal

pub returns-clause-index_of : goal.returns-clause-index_of
returns-clause-index_of c = refl

pub returns-clause-constant_word : goal.returns-clause-constant_word
returns-clause-constant_word c = refl

pub returns-clause-built_in : goal.returns-clause-built_in
returns-clause-built_in c = refl

pub returns-clause-no_primitive : goal.returns-clause-no_primitive
returns-clause-no_primitive c = refl

pub returns-clause-grade_down : goal.returns-clause-grade_down
returns-clause-grade_down c = refl

pub returns-clause-built_in_name : goal.returns-clause-built_in_name
returns-clause-built_in_name c = refl

pub returns-clause-least_constant : goal.returns-clause-least_constant
returns-clause-least_constant c = refl

pub returns-clause-largest_constant : goal.returns-clause-largest_constant
returns-clause-largest_constant c = refl

pub returns-clause-no_constant : goal.returns-clause-no_constant
returns-clause-no_constant c = refl

pub returns-clause-rank : goal.returns-clause-rank
returns-clause-rank c = refl

pub returns-clause-suffix : goal.returns-clause-suffix
returns-clause-suffix c = refl

pub returns-clause-no_modifier : goal.returns-clause-no_modifier
returns-clause-no_modifier c = refl

pub returns-clause-simple_name : goal.returns-clause-simple_name
returns-clause-simple_name c = refl

pub returns-clause-direct_name : goal.returns-clause-direct_name
returns-clause-direct_name c = refl

pub returns-clause-numbered_locale : goal.returns-clause-numbered_locale
returns-clause-numbered_locale c = refl

pub returns-clause-object_name : goal.returns-clause-object_name
returns-clause-object_name c = refl

pub returns-clause-two_objects : goal.returns-clause-two_objects
returns-clause-two_objects c = refl

pub returns-clause-no_locale : goal.returns-clause-no_locale
returns-clause-no_locale c = refl

pub returns-clause-low_at_end : goal.returns-clause-low_at_end
returns-clause-low_at_end c = refl

pub returns-clause-digit_first : goal.returns-clause-digit_first
returns-clause-digit_first c = refl

pub returns-clause-digit_in_object : goal.returns-clause-digit_in_object
returns-clause-digit_in_object c = refl

pub returns-clause-low_alone : goal.returns-clause-low_alone
returns-clause-low_alone c = refl

pub returns-clause-mark : goal.returns-clause-mark
returns-clause-mark c = refl

pub returns-clause-no_bytes : goal.returns-clause-no_bytes
returns-clause-no_bytes c = refl
