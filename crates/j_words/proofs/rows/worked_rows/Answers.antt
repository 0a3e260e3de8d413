use Rattle.std.proofs.Common.{refl}
use Rattle.j_words.proofs.rows.worked_rows.Goals as goal

pub returns-clause-list_sum : goal.returns-clause-list_sum
returns-clause-list_sum c = refl

pub returns-clause-blanks_between : goal.returns-clause-blanks_between
returns-clause-blanks_between c = refl

pub returns-clause-comment : goal.returns-clause-comment
returns-clause-comment c = refl

pub returns-clause-no_comment : goal.returns-clause-no_comment
returns-clause-no_comment c = refl

pub returns-clause-no_comment_word : goal.returns-clause-no_comment_word
returns-clause-no_comment_word c = refl

pub returns-clause-marks_in_name : goal.returns-clause-marks_in_name
returns-clause-marks_in_name c = refl

pub returns-clause-constant : goal.returns-clause-constant
returns-clause-constant c = refl

pub returns-clause-no_constant : goal.returns-clause-no_constant
returns-clause-no_constant c = refl

pub returns-clause-infinite_constant : goal.returns-clause-infinite_constant
returns-clause-infinite_constant c = refl

pub returns-clause-two_words : goal.returns-clause-two_words
returns-clause-two_words c = refl

pub returns-clause-doubled_quote : goal.returns-clause-doubled_quote
returns-clause-doubled_quote c = refl

pub returns-clause-text_after_numbers : goal.returns-clause-text_after_numbers
returns-clause-text_after_numbers c = refl

pub returns-clause-open_quote : goal.returns-clause-open_quote
returns-clause-open_quote c = refl

pub returns-clause-copulas : goal.returns-clause-copulas
returns-clause-copulas c = refl

pub returns-clause-left_out : goal.returns-clause-left_out
returns-clause-left_out c = refl

pub returns-clause-misspelled : goal.returns-clause-misspelled
returns-clause-misspelled c = refl

pub returns-clause-later : goal.returns-clause-later
returns-clause-later c = refl

pub returns-clause-no_name : goal.returns-clause-no_name
returns-clause-no_name c = refl

pub returns-clause-object : goal.returns-clause-object
returns-clause-object c = refl

pub returns-clause-locative : goal.returns-clause-locative
returns-clause-locative c = refl

pub returns-clause-name : goal.returns-clause-name
returns-clause-name c = refl

pub returns-clause-control : goal.returns-clause-control
returns-clause-control c = refl

pub returns-clause-no_control : goal.returns-clause-no_control
returns-clause-no_control c = refl

pub returns-clause-left_throw : goal.returns-clause-left_throw
returns-clause-left_throw c = refl

pub returns-clause-leftmost : goal.returns-clause-leftmost
returns-clause-leftmost c = refl

pub returns-clause-no_byte : goal.returns-clause-no_byte
returns-clause-no_byte c = refl

pub returns-clause-part_letters : goal.returns-clause-part_letters
returns-clause-part_letters c = refl

pub returns-clause-sentence : goal.returns-clause-sentence
returns-clause-sentence c = refl

pub returns-clause-only_double_quote : goal.returns-clause-only_double_quote
returns-clause-only_double_quote c = refl

pub returns-clause-suffix : goal.returns-clause-suffix
returns-clause-suffix c = refl

pub returns-clause-empty_text : goal.returns-clause-empty_text
returns-clause-empty_text c = refl

pub returns-clause-no_words : goal.returns-clause-no_words
returns-clause-no_words c = refl

pub returns-clause-open_after_closed : goal.returns-clause-open_after_closed
returns-clause-open_after_closed c = refl

pub returns-clause-no_letter_in_object : goal.returns-clause-no_letter_in_object
returns-clause-no_letter_in_object c = refl

pub returns-clause-locale_of_digits : goal.returns-clause-locale_of_digits
returns-clause-locale_of_digits c = refl

pub returns-clause-low_alone : goal.returns-clause-low_alone
returns-clause-low_alone c = refl

pub returns-clause-text_at_end : goal.returns-clause-text_at_end
returns-clause-text_at_end c = refl

pub returns-clause-control_in_text : goal.returns-clause-control_in_text
returns-clause-control_in_text c = refl

pub returns-clause-comment_in_text : goal.returns-clause-comment_in_text
returns-clause-comment_in_text c = refl

pub returns-clause-any_byte_in_text : goal.returns-clause-any_byte_in_text
returns-clause-any_byte_in_text c = refl

pub returns-clause-texts_apart : goal.returns-clause-texts_apart
returns-clause-texts_apart c = refl

pub returns-clause-text_of_a_quote : goal.returns-clause-text_of_a_quote
returns-clause-text_of_a_quote c = refl
