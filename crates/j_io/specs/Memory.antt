-- Texts in memory, each under its name.
use Rattle.std.specs.Prelude.{◌≡◌, ⊤, ℕ, List, [], ◌∷◌, cond, Option, None, Some, bytes_eq, Vec, String}
use Rattle.std.specs.declared.alloc.Global.{Global}
use Rattle.j_io.specs.Outside.{text_under}

-- the first text that has the name
abbrev pub held_by : List (String Global × Vec ℕ Global) → List ℕ → Option (List ℕ)
held_by [] name = None
held_by (text ∷ texts) name =
    cond (bytes_eq text.0.bytes.items name) (Some text.1.items) (held_by texts name)

-- no two texts have the same name
abbrev pub HasDistinctNames : List (String Global × Vec ℕ Global) → Type 0
HasDistinctNames [] = ⊤
HasDistinctNames (text ∷ texts) = (held_by texts text.0.bytes.items ≡ None) × HasDistinctNames texts

-- the text of the selected name, or nothing
abbrev pub selected_text : List (String Global × Vec ℕ Global) → Option (String Global) → List ℕ
selected_text texts None = []
selected_text texts (Some name) = text_under name.bytes.items (held_by texts)
