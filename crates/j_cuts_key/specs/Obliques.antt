-- Oblique lines.
use Rattle.std.specs.Prelude.{ℕ, ◌+◌, ◌-◌, ◌*◌, ◌&&◌, ◌||◌, nat_eq, nat_le, nat_lt, cond, List, [], ◌∷◌, map, take, drop, filter}
use Rattle.std.specs.List.{range_with_len}
use Rattle.j_definitions.specs.Array.{Array, product, tally}
use Rattle.j_scans.specs.Pieced.{Pieced, places, items_at}

-- how many rows and columns: the first two axes; a list is one column, an atom 1 by 1
abbrev pub rows : List ℕ → ℕ
rows s = tally s

abbrev pub columns : List ℕ → ℕ
columns [] = 1
columns (r ∷ []) = 1
columns (r ∷ c ∷ s) = c

-- y with its rows and columns as one axis, row by row
abbrev pub spread : Array → Array
spread y = record { kind = y.kind; shape = product (take 2 y.shape) ∷ drop 2 y.shape; atoms = y.atoms }

-- the rows, ascending, where row and column have the sum n
abbrev pub rows_on : ℕ → ℕ → ℕ → List ℕ
rows_on r c n = filter (λ i. nat_le i n && nat_lt (n - i) c) (places r)

-- the places there
abbrev pub line : ℕ → ℕ → ℕ → List ℕ
line r c n = map (λ i. i * c + (n - i)) (rows_on r c n)

-- for each sum from 0 to r+c-2, and none where r or c is 0
abbrev pub line_count : ℕ → ℕ → ℕ
line_count r c = cond (nat_eq r 0 || nat_eq c 0) 0 (r + c - 1)

abbrev pub lines : ℕ → ℕ → List (List ℕ)
lines r c = map (line r c) (range_with_len 0 (line_count r c))

-- the pieces of `u/. y`
abbrev pub obliques : Array → Pieced
obliques y = record { pieces = map (items_at (spread y)) (lines (rows y.shape) (columns y.shape)); no_items = items_at y [] }
