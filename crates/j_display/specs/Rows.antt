-- How a noun is shown: as a list of rows, each of them a list of bytes.
use Rattle.std.specs.Prelude.{ℕ, ◌+◌, ◌-◌, ◌*◌, ◌%◌, ◌==◌, cond, min, max, List, [], ◌∷◌, ◌++◌, length, map, take, drop, replicate, fold}
use Rattle.std.specs.List.{flat_map, join_by, range_with_len, zip}
use lib.ListN.{get_or}
use Rattle.j_definitions.specs.Array.{Array, Atom, number, byte, nested, Row, row_end, row_more, atoms_in, product}
use Rattle.j_definitions.specs.declared.Kind.{Kind}
use Rattle.j_definitions.specs.declared.Kind.TheVariants.{Number, Character, Boxed}
use Rattle.j_numbers.specs.Printed.{printed}

-- n pieces of a list, of so many elements each, in order
abbrev pub pieces : {X : Type 0} → ℕ → ℕ → List X → List (List X)
pieces n size xs = map (λ k. take size (drop (k * size) xs)) (range_with_len 0 n)

-- an atom by itself: a number in decimal, a character as its byte; what is in a box is shown as rows
abbrev pub atom_text : Atom → List ℕ
atom_text (number z) = printed z
atom_text (byte b) = b ∷ []
atom_text (nested k s r) = []

-- A line is a cell of rank 1, and an atom is a line of one. These are the axes that a line is without, and how many atoms it has.
abbrev pub line_frame : List ℕ → List ℕ
line_frame s = take (length s - 1) s

abbrev pub line_length : List ℕ → ℕ
line_length s = product (drop (length s - 1) s)

-- the wider of two widths in each column
abbrev pub wider : List ℕ → List ℕ → List ℕ
wider (v ∷ vs) (w ∷ ws) = max v w ∷ wider vs ws
wider _ _ = []

abbrev pub text_widths : List Atom → List ℕ
text_widths line = map (λ x. length (atom_text x)) line

-- each of n columns is as wide as its widest number in all lines
abbrev pub column_widths : ℕ → List (List Atom) → List ℕ
column_widths n lines = fold wider (replicate n 0) (map text_widths lines)

-- a text that stands right in its column
abbrev pub set_right : ℕ → List ℕ → List ℕ
set_right width text = replicate (width - length text) 32 ++ text

-- the row of a line, in columns of these widths: one blank parts numbers, and characters stand as they are
abbrev pub line_row : Kind → List ℕ → List Atom → List ℕ
line_row Number widths line = join_by (λ p. set_right p.0 (atom_text p.1)) (32 ∷ []) (zip widths line)
line_row Character widths line = flat_map atom_text line
line_row Boxed widths line = []

-- the rows of all lines, with columns that are as wide in each table
abbrev pub line_rows : Kind → ℕ → List (List Atom) → List (List ℕ)
line_rows k n lines = map (line_row k (column_widths n lines)) lines

-- The rows of a noun above rank 1 are those of its items. Two items have as many empty rows between them as the noun's rank is above 2: none between lines, one between tables.
abbrev pub stacked : List ℕ → List (List ℕ) → List (List ℕ)
stacked [] rows = rows
stacked (n ∷ frame) rows = join_by (stacked frame) (replicate (length frame) []) (pieces n (product frame) rows)

-- lines of one length, of a kind, in a frame
abbrev pub lines_stacked : Kind → List ℕ → ℕ → List Atom → List (List ℕ)
lines_stacked k frame n xs = stacked frame (line_rows k n (pieces (product frame) n xs))

-- the greatest of numbers, or 0
abbrev pub greatest : List ℕ → ℕ
greatest [] = 0
greatest (n ∷ ns) = max n (greatest ns)

abbrev pub row_widths : List (List ℕ) → List ℕ
row_widths rows = map (λ row. length row) rows

-- how wide rows are: as the widest
abbrev pub width_of : List (List ℕ) → ℕ
width_of rows = greatest (row_widths rows)

-- each of n columns is as wide as the widest content in it, in all lines
abbrev pub box_widths : ℕ → List (List (List (List ℕ))) → List ℕ
box_widths n lines = fold wider (replicate n 0) (map (λ line. map width_of line) lines)

-- a line is as high as the highest content in it
abbrev pub height_of : List (List (List ℕ)) → ℕ
height_of line = greatest (map (λ rows. length rows) line)

-- a row that blanks fill up to a width
abbrev pub padded : ℕ → List ℕ → List ℕ
padded width row = row ++ replicate (width - length row) 32

-- row r of a content, in a column of its width, and the bar behind it
abbrev pub box_cell : ℕ → ℕ × List (List ℕ) → List ℕ
box_cell r p = padded p.0 (get_or p.1 r []) ++ 124 ∷ []

-- row r of a line of boxes: each content stands at the top left of its box
abbrev pub box_row : List ℕ → List (List (List ℕ)) → ℕ → List ℕ
box_row widths line r = 124 ∷ flat_map (box_cell r) (zip widths line)

-- what parts and frames lines
abbrev pub rule_part : ℕ → List ℕ
rule_part width = replicate width 45 ++ 43 ∷ []

abbrev pub rule : List ℕ → List ℕ
rule widths = 43 ∷ flat_map rule_part widths

-- how many axes of a frame turn to their next place or begin again before line k; the last does so before each line
abbrev pub turned : List ℕ → ℕ → ℕ
turned [] k = 0
turned (n ∷ frame) k = cond (k % product frame == 0) 1 0 + turned frame k

-- how many empty rows stand above line k: before each table but the first as many as axes but the last turn
abbrev pub gap : List ℕ → ℕ → ℕ
gap frame k = cond (k == 0) 0 (turned frame k - 1)

-- a rule stands above line k where it begins a table
abbrev pub rules_above : List ℕ → ℕ → ℕ
rules_above frame k = cond (k == 0) 1 (min 1 (turned frame k - 1))

abbrev pub above : List ℕ → List ℕ → ℕ → List (List ℕ)
above frame widths k = replicate (gap frame k) [] ++ replicate (rules_above frame k) (rule widths)

-- the rows of line k, with the rule under it
abbrev pub box_line : List ℕ → List ℕ → ℕ → List (List (List ℕ)) → List (List ℕ)
box_line frame widths k line = above frame widths k ++ (map (box_row widths line) (range_with_len 0 (height_of line)) ++ rule widths ∷ [])

-- the rows of lines of n boxes that a frame arranges, in columns of these widths
abbrev pub grid : List ℕ → List ℕ → ℕ → List (List (List ℕ)) → List (List ℕ)
grid frame widths n contents = flat_map (λ k. box_line frame widths k (take n (drop (k * n) contents))) (range_with_len 0 (product frame))

-- The rows of boxes, by the rows of their contents: a grid for each table, with columns that are as wide in each table.
abbrev pub box_rows : List ℕ → List (List (List ℕ)) → List (List ℕ)
box_rows s contents = grid (line_frame s) (box_widths (line_length s) (pieces (product (line_frame s)) (line_length s) contents)) (line_length s) contents

-- the rows of atoms, by the rows of what is in boxes
abbrev pub atoms_rows : Kind → List ℕ → List Atom → List (List (List ℕ)) → List (List ℕ)
atoms_rows Boxed s xs contents = box_rows s contents
atoms_rows k s xs contents = lines_stacked k (line_frame s) (line_length s) xs

-- without atoms: one empty row where it is a list, else none
abbrev pub rows_without_atoms : List ℕ → List (List ℕ)
rows_without_atoms (n ∷ []) = [] ∷ []
rows_without_atoms _ = []

abbrev pub rows_of : Kind → List ℕ → List Atom → List (List (List ℕ)) → List (List ℕ)
rows_of k s [] contents = rows_without_atoms s
rows_of k s (x ∷ xs) contents = atoms_rows k s (x ∷ xs) contents

abbrev mutual
  -- the rows of what is in a box
  pub content_rows : Atom → List (List ℕ)
  content_rows (number z) = []
  content_rows (byte b) = []
  content_rows (nested k s r) = rows_of k s (atoms_in r) (contents_rows r)

  pub contents_rows : Row → List (List (List ℕ))
  contents_rows row_end = []
  contents_rows (row_more x rest) = content_rows x ∷ contents_rows rest

-- The rows of a noun.
abbrev pub noun_rows : Array → List (List ℕ)
noun_rows y = rows_of y.kind y.shape y.atoms (map content_rows y.atoms)

-- What is written for rows: each with a line feed.
abbrev pub joined : List (List ℕ) → List ℕ
joined rows = flat_map (λ row. row ++ 10 ∷ []) rows
