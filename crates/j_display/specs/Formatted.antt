-- The characters that a noun is formatted as.
use Rattle.std.specs.Prelude.{ℕ, List, [], ◌∷◌, ◌++◌, map, Result, Ok, Err}
use Rattle.std.specs.List.{flat_map}
use Rattle.j_definitions.specs.Array.{Array, Atom, byte, product}
use Rattle.j_definitions.specs.Limits.{limited}
use Rattle.j_definitions.specs.declared.Kind.{Kind}
use Rattle.j_definitions.specs.declared.Kind.TheVariants.{Number, Character, Boxed}
use Rattle.j_definitions.specs.declared.Fault.{Fault}
use Rattle.j_definitions.specs.declared.Fault.TheVariants.{Nonce}
use Rattle.j_display.specs.Rows.{pieces, line_frame, line_length, line_rows, width_of}

-- the rows of the lines of numbers, with no empty row among them
abbrev pub number_rows : List ℕ → List Atom → List (List ℕ)
number_rows s xs = line_rows Number (line_length s) (pieces (product (line_frame s)) (line_length s) xs)

-- rows as one noun: in place of the last axis, or behind no axes, there is the width of a row
abbrev pub row_characters : List ℕ → List (List ℕ) → Array
row_characters s rows = record { kind = Character; shape = line_frame s ++ width_of rows ∷ []; atoms = map byte (flat_map (λ row. row) rows) }

abbrev pub formatted_as : Kind → Array → Result Array Fault
formatted_as Number y = limited (row_characters y.shape (number_rows y.shape y.atoms))
formatted_as Character y = Ok y
formatted_as Boxed y = Err Nonce

-- Characters stay as they are, and boxes are `nonce error`.
abbrev pub formatted : Array → Result Array Fault
formatted y = formatted_as y.kind y
