-- What is found once of each noun in a box: how wide and how high its columns and lines are.
use Rattle.std.specs.Prelude.{◌≡◌, ℕ, ◌+◌, ◌*◌, ◌<◌, ◌≤◌, List, [], ◌∷◌, ◌++◌, length, map, drop, replicate}
use Rattle.std.specs.List.{flat_map, sum_by, range_with_len}
use lib.ListN.{get_or}
use Rattle.j_definitions.specs.Array.{Array, Atom, number, byte, nested, Row, row_end, row_more, atoms_in, product}
use Rattle.j_definitions.specs.declared.Kind.{Kind}
use Rattle.j_definitions.specs.declared.Kind.TheVariants.{Boxed}
use Rattle.j_display.specs.Rows.{pieces, line_frame, line_length, box_widths, height_of, width_of, grid, content_rows, contents_rows, gap, rules_above}
use Rattle.j_display.specs.declared.measure.Size.{Size}
use Rattle.j_display.specs.declared.paint.Grid.{Grid}

-- the widths of the columns, and then the heights of the lines
abbrev pub own_sizes : List ℕ → List (List (List ℕ)) → List ℕ
own_sizes s contents =
    box_widths (line_length s) (pieces (product (line_frame s)) (line_length s) contents) ++ map height_of (pieces (product (line_frame s)) (line_length s) contents)

-- those of a noun, and then those of the nouns in its boxes
abbrev pub sizes_of : Kind → List ℕ → List Atom → List (List (List ℕ)) → List ℕ → List ℕ
sizes_of Boxed s (x ∷ xs) contents inner = own_sizes s contents ++ inner
sizes_of _ s xs contents inner = []

abbrev mutual
  pub content_sizes : Atom → List ℕ
  content_sizes (number z) = []
  content_sizes (byte b) = []
  content_sizes (nested k s r) = sizes_of k s (atoms_in r) (contents_rows r) (contents_sizes r)

  pub contents_sizes : Row → List ℕ
  contents_sizes row_end = []
  contents_sizes (row_more x rest) = content_sizes x ++ contents_sizes rest

abbrev pub noun_sizes : Array → List ℕ
noun_sizes y = sizes_of y.kind y.shape y.atoms (map content_rows y.atoms) (flat_map content_sizes y.atoms)

-- how wide and how high rows are
pub record IsSize (size : Size) (rows : List (List ℕ)) : Type 0 where
  pub width : size.width ≡ width_of rows
  pub height : size.height ≡ length rows

-- how many rows the first k lines of a grid take, with what stands above each and the rule under it
abbrev pub grid_height : List ℕ → List ℕ → ℕ → ℕ
grid_height frame heights k = sum_by (λ i. gap frame i + (rules_above frame i + (get_or heights i 0 + 1))) (range_with_len 0 k)

-- and how many bytes, where each row has so many with its line feed, but an empty row only that
abbrev pub grid_bytes : List ℕ → List ℕ → ℕ → ℕ → ℕ
grid_bytes frame heights row k = sum_by (λ i. gap frame i + (rules_above frame i + (get_or heights i 0 + 1)) * row) (range_with_len 0 k)

-- a grid with the widths and the heights of its contents
pub record IsGridOf (g : Grid) (contents : List (List (List ℕ))) : Type 0 where
  pub some : 0 < product g.frame.now
  pub few : product g.frame.now ≤ 4194304
  pub rank : length g.frame.now ≤ 32
  pub whole : product g.frame.now * length g.widths.now ≡ length contents
  pub atoms : length contents ≤ 4194304
  pub widths : g.widths.now ≡ box_widths (length g.widths.now) (pieces (product g.frame.now) (length g.widths.now) contents)
  pub heights : g.heights.now ≡ map height_of (pieces (product g.frame.now) (length g.widths.now) contents)

abbrev pub grid_of : Grid → List (List (List ℕ)) → List (List ℕ)
grid_of g contents = grid g.frame.now g.widths.now (length g.widths.now) contents

-- blanks in some rows, and bars
abbrev pub blanks_below : ℕ → ℕ → List (List ℕ)
blanks_below height width = replicate height (replicate width 32)

abbrev pub bars : ℕ → List (List ℕ)
bars height = replicate height (124 ∷ [])

-- sizes that stand in a list from a place on
abbrev pub StandAt : List ℕ → ℕ → List ℕ → Type 0
StandAt sizes at own = (rest : List ℕ) × (drop at sizes ≡ own ++ rest)
