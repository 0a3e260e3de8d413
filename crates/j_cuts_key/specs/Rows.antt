-- Names for the rows worked out by hand.
use Rattle.std.specs.Prelude.{ℕ, List, [], ◌∷◌, length, Result, Ok, Err}
use Rattle.j_definitions.specs.Array.{Array}
use Rattle.j_definitions.specs.declared.Fault.{Fault}
use Rattle.j_search.specs.declared.cut.CutForm.{CutForm}
use Rattle.j_scans.specs.Pieced.{Pieced}
use Rattle.j_cuts_key.specs.Keys.{keyed}
use Rattle.j_cuts_key.specs.Cuts.{cuts_by}
use Rattle.j_rank.specs.Rows.{bytes_in}

-- the text of these bytes
abbrev pub text : List ℕ → Array
text bs = bytes_in (length bs ∷ []) bs

-- the pieces alone
abbrev pub pieces_of : Result Pieced Fault → Result (List Array) Fault
pieces_of (Ok p) = Ok p.pieces
pieces_of (Err e) = Err e

abbrev pub keyed_by : Array → Array → Result (List Array) Fault
keyed_by x y = pieces_of (keyed x y)

abbrev pub marked_by : CutForm → Array → Array → Result (List Array) Fault
marked_by form x y = pieces_of (cuts_by form x y)
