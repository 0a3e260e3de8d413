-- Nouns for the rows worked out by hand.
use Rattle.std.specs.Prelude.{ℤ, negsuc, ℕ, ◌-◌, List, [], ◌∷◌, length, map}
use Rattle.j_definitions.specs.Array.{Array, number}
use Rattle.j_definitions.specs.declared.Kind.TheVariants.{Number}
use Rattle.j_rank.specs.Rows.{numbers_in, bytes_in}

-- a list of integers
abbrev pub list_of : List ℤ → Array
list_of zs = record { kind = Number; shape = length zs ∷ []; atoms = map number zs }

-- the number -n
abbrev pub minus : ℕ → ℤ
minus n = negsuc (n - 1)

-- 0 1 2 3 4 5 in two rows, and 0 to 11 in two tables of three rows
abbrev pub table : Array
table = numbers_in (2 ∷ 3 ∷ []) (0 ∷ 1 ∷ 2 ∷ 3 ∷ 4 ∷ 5 ∷ [])

abbrev pub block : Array
block = numbers_in (2 ∷ 3 ∷ 2 ∷ []) (0 ∷ 1 ∷ 2 ∷ 3 ∷ 4 ∷ 5 ∷ 6 ∷ 7 ∷ 8 ∷ 9 ∷ 10 ∷ 11 ∷ [])

-- 1 2 3, and `abc`
abbrev pub list : Array
list = numbers_in (3 ∷ []) (1 ∷ 2 ∷ 3 ∷ [])

abbrev pub text : Array
text = bytes_in (3 ∷ []) (97 ∷ 98 ∷ 99 ∷ [])

-- lists and tables without atoms
abbrev pub no_items : Array
no_items = numbers_in (0 ∷ []) []

abbrev pub no_rows : Array
no_rows = bytes_in (0 ∷ 3 ∷ []) []

abbrev pub no_columns : Array
no_columns = bytes_in (3 ∷ 0 ∷ []) []
