-- The report of an error: its name, and the line's text.
use Rattle.std.specs.Prelude.{ℕ, cond, List, [], ◌∷◌, ◌++◌, reverse, take, codes, Result, Ok, Err}
use Rattle.j_definitions.specs.declared.Fault.{Fault}
use Rattle.j_definitions.specs.Faults.{fault_text}
use Rattle.j_definitions.specs.Bytes.{is_blank}
use Rattle.j_words.specs.Lines.{words}
use Rattle.j_words.specs.declared.Word.{Word}
use Rattle.j_words.specs.declared.WordFault.{WordFault}

abbrev pub without_leading_blanks : List ℕ → List ℕ
without_leading_blanks [] = []
without_leading_blanks (b ∷ bs) = cond (is_blank b) (without_leading_blanks bs) (b ∷ bs)

abbrev pub without_trailing_blanks : List ℕ → List ℕ
without_trailing_blanks line = reverse (without_leading_blanks (reverse line))

-- where the last word ends
abbrev pub last_end : List Word → ℕ
last_end [] = 0
last_end (w ∷ []) = w.to
last_end (w ∷ v ∷ ws) = last_end (v ∷ ws)

-- Up to the end of the last word. Where words can't be formed, up to the last byte that isn't a blank.
abbrev pub worded : List ℕ → Result (List Word) WordFault → List ℕ
worded line (Ok ws) = take (last_end ws) line
worded line (Err f) = without_trailing_blanks line

-- the text of a line: from its first byte that isn't a blank to the end of its words
abbrev pub text_of : List ℕ → List ℕ
text_of line = without_leading_blanks (worded line (words line))

abbrev pub report : Fault → List ℕ → List ℕ
report fault line = codes "|" ++ fault_text fault ++ 10 ∷ codes "|   " ++ text_of line ++ 10 ∷ []
