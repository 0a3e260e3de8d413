-- Nouns for the rows worked out by hand.
use Rattle.std.specs.Prelude.{ℕ, negsuc, ◌-◌, List, [], ◌∷◌, length, Result, Ok, Err}
use Rattle.j_definitions.specs.Array.{Array, number, atom_array}
use Rattle.j_definitions.specs.declared.Kind.TheVariants.{Number}
use Rattle.j_definitions.specs.declared.Fault.{Fault}
use Rattle.j_scans.specs.Pieced.{Pieced}
use Rattle.j_scans.specs.Scans.{infixes, outfixes}
use Rattle.j_rank.specs.Rows.{numbers_in, bytes_in}

-- the atom 5, and the list of it
abbrev pub five : Array
five = numbers_in [] (5 ∷ [])

abbrev pub one_five : Array
one_five = numbers_in (1 ∷ []) (5 ∷ [])

-- a list of these
abbrev pub list : List ℕ → Array
list ns = numbers_in (length ns ∷ []) ns

-- 0 1 2 3 4 5 in two rows; no rows of three; three rows of none
abbrev pub table : Array
table = numbers_in (2 ∷ 3 ∷ []) (0 ∷ 1 ∷ 2 ∷ 3 ∷ 4 ∷ 5 ∷ [])

abbrev pub no_rows : Array
no_rows = bytes_in (0 ∷ 3 ∷ []) []

abbrev pub no_columns : ℕ → Array
no_columns n = bytes_in (n ∷ 0 ∷ []) []

abbrev pub none : Array
none = numbers_in (0 ∷ []) []

-- the number n, and -n
abbrev pub atom : ℕ → Array
atom n = numbers_in [] (n ∷ [])

abbrev pub minus : ℕ → Array
minus n = atom_array Number (number (negsuc (n - 1)))

-- the pieces alone
abbrev pub pieces_of : Result Pieced Fault → Result (List Array) Fault
pieces_of (Ok p) = Ok p.pieces
pieces_of (Err e) = Err e

abbrev pub infixes_by : Array → Array → Result (List Array) Fault
infixes_by n y = pieces_of (infixes n y)

abbrev pub outfixes_by : Array → Array → Result (List Array) Fault
outfixes_by n y = pieces_of (outfixes n y)
