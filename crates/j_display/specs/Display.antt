-- How a value is shown: as a list of rows. Of a verb or an operator the class is shown.
use Rattle.std.specs.Prelude.{ℕ, List, [], ◌∷◌, codes}
use Rattle.j_entity.specs.Tree.{EntityTree, a_noun, a_verb, an_adverb, a_conjunction}
use Rattle.j_display.specs.Rows.{noun_rows}

-- The rows of a value.
abbrev pub entity_rows : EntityTree → List (List ℕ)
entity_rows (a_noun y) = noun_rows y
entity_rows (a_verb v) = codes "verb" ∷ []
entity_rows (an_adverb a) = codes "adverb" ∷ []
entity_rows (a_conjunction c) = codes "conjunction" ∷ []
