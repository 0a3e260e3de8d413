-- The lines of a noun, one by one, for the crate's own functions.
use Rattle.std.specs.Prelude.{◌≡◌, ◌≢◌, ℕ, ◌*◌, ◌≤◌, List, length, map, take, drop}
use Prim.Native.Nat.{zero, suc}
use Rattle.std.specs.List.{range_with_len}
use Rattle.j_definitions.specs.declared.Kind.TheVariants.{Number, Boxed}
use Rattle.j_definitions.specs.Array.{Atom, product}
use Rattle.j_definitions.specs.declared.Kind.{Kind}
use Rattle.j_noun.specs.Viewed.{viewed, kind_viewed}
use Rattle.j_display.specs.Rows.{line_row, column_widths, stacked, joined}
use Rattle.j_display.specs.declared.lines.Lines.{Lines}

-- the row of line k
abbrev pub row_at : Lines → ℕ → List ℕ
row_at l k = line_row (kind_viewed l.atoms) l.widths.now (take l.columns (drop (k * l.columns) (viewed l.atoms)))

-- that many lines are there, of numbers or characters
pub record HasLines (l : Lines) (count : ℕ) : Type 0 where
  pub not_boxed : kind_viewed l.atoms ≢ Boxed
  pub enough : count * l.columns ≤ length (viewed l.atoms)
  pub counted : count ≤ 4194304
  pub few : length (viewed l.atoms) ≤ 4194304
  pub wide : kind_viewed l.atoms ≡ Number → length l.widths.now ≡ l.columns

-- what is written for the lines that a frame arranges, from one line on
abbrev pub shown_lines : List ℕ → Lines → ℕ → List ℕ
shown_lines frame l from = joined (stacked frame (map (row_at l) (range_with_len from (product frame))))

-- the rows of those lines
abbrev pub rows_from : List ℕ → Lines → ℕ → List (List ℕ)
rows_from frame l from = stacked frame (map (row_at l) (range_with_len from (product frame)))

-- the widths of columns, where lines are of numbers
abbrev pub AreWidths : Kind → ℕ → List (List Atom) → List ℕ → Type 0
AreWidths Number n lines ws = ws ≡ column_widths n lines
AreWidths _ n lines ws = Unit {0}

-- how many stand before piece k, where so many stand between two
abbrev pub between : ℕ → ℕ → ℕ
between zero count = 0
between (suc k) count = count
