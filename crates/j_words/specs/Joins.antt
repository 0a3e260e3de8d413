-- Words as they are gathered.
use Rattle.std.specs.Prelude.{Bool, false, List, [], ◌∷◌}
use Rattle.j_words.specs.Lines.{is_number}
use Rattle.j_words.specs.declared.Word.{Word}

-- whether the last word is a number word
abbrev pub ends_number : List Word → Bool
ends_number [] = false
ends_number (w ∷ []) = is_number w.class
ends_number (w ∷ x ∷ ws) = ends_number (x ∷ ws)
