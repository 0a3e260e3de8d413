-- Where cells come from.
use Rattle.std.specs.Prelude.{ℕ, get_or, None}
use Rattle.std.specs.Option.{option_copied}
use Rattle.j_verbs.specs.ByRank.{Cells, HasPairs, Source, pair, source}
use Rattle.j_eval.specs.Pieces.{source_of_pieces}
use Rattle.j_eval.specs.declared.sources.CellsFrom.{CellsFrom}
use Rattle.j_eval.specs.declared.sources.CellsFrom.TheVariants.{Arguments, Runs, Groups}

-- the cells that a plan takes of arguments, or the pieces of a noun
abbrev pub source_of : CellsFrom → Source
source_of (Arguments p x y) = source p.now (option_copied x) y.now
source_of (Runs p) = source_of_pieces p.now
source_of (Groups p) = source_of_pieces p.now

-- cells k of them
abbrev pub cells_at : CellsFrom → ℕ → Cells
cells_at (Arguments p x y) k = pair p.now (option_copied x) y.now k
cells_at (Runs p) k = (None, get_or p.now.pieces k p.now.no_items)
cells_at (Groups p) k = (None, get_or p.now.pieces k p.now.no_items)

-- arguments have the cells of their plan
abbrev pub HasCells : CellsFrom → Type 0
HasCells (Arguments p x y) = HasPairs p.now (option_copied x) y.now
HasCells (Runs p) = Unit {0}
HasCells (Groups p) = Unit {0}
