-- How many bytes rows take, for the crate's own functions.
use Rattle.std.specs.Prelude.{ℕ, ◌+◌, ◌-◌, ◌*◌, List, [], ◌∷◌, length}
use Rattle.std.specs.List.{sum_by}

-- a row of numbers: each column, with a blank or the line feed behind it
abbrev pub row_bytes : List ℕ → ℕ
row_bytes widths = sum_by (λ w. w + 1) widths

-- rows of so many bytes each, and a line feed for each empty row between them
abbrev pub stacked_bytes : List ℕ → ℕ → ℕ
stacked_bytes [] row = row
stacked_bytes (n ∷ frame) row = n * stacked_bytes frame row + (n - 1) * length frame
