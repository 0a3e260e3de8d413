-- Cells at places, and items that counts copy.
use Rattle.std.specs.Prelude.{ℕ, ℤ, ◌*◌, nat_eq, cond, List, [], ◌∷◌, ◌++◌, length, map, take, drop, get_or, Result, Ok, Err}
use Rattle.std.specs.List.{flat_map, range_with_len}
use Rattle.j_definitions.specs.Array.{Array, product, tally}
use Rattle.j_definitions.specs.Limits.{limited}
use Rattle.j_definitions.specs.declared.Fault.{Fault}
use Rattle.j_definitions.specs.declared.Fault.TheVariants.{Length}
use Rattle.j_indices.specs.Counting.{repeated_from}
use Rattle.j_indices.specs.Numbers.{whole_numbers, counts_of, indices_in, and_then}

-- the runs of so many elements at places that count such runs
abbrev pub runs_at : {X : Type 0} → ℕ → List X → List ℕ → List X
runs_at size xs ks = flat_map (λ k. take size (drop (k * size) xs)) ks

-- in a frame, the cells of a noun at places among those of its n leading axes
abbrev pub cells_at : List ℕ → ℕ → Array → List ℕ → Array
cells_at frame n y ks = record { kind = y.kind; shape = frame ++ drop n y.shape; atoms = runs_at (product (drop n y.shape)) y.atoms ks }

-- place k, or the one place of an atom, which serves for all
abbrev pub serving : List ℕ → ℕ → ℕ
serving [] k = 0
serving (n ∷ s) k = k

-- how many pairs of a count and an item there are
abbrev pub paired : List ℕ → List ℕ → Result ℕ Fault
paired [] [] = Ok 1
paired [] (n ∷ t) = Ok n
paired (m ∷ s) [] = Ok m
paired (m ∷ s) (n ∷ t) = cond (nat_eq m n) (Ok n) (Err Length)

-- the count of each of n pairs, where the counts have shape s
abbrev pub counts_served : List ℕ → List ℕ → ℕ → List ℕ
counts_served s counts n = map (λ k. get_or counts (serving s k) 0) (range_with_len 0 n)

-- each pair as often as its count
abbrev pub pairs_copied : List ℕ → List ℕ → ℕ → List ℕ
pairs_copied s counts n = repeated_from 0 (counts_served s counts n)

-- the item of each pair as often as its count
abbrev pub copied : List ℕ → List ℕ → Array → ℕ → Array
copied s counts y n = cells_at (length (pairs_copied s counts n) ∷ []) 1 y (map (serving y.shape) (pairs_copied s counts n))

abbrev pub copied_by : List ℕ → List ℕ → Array → Result Array Fault
copied_by s counts y = and_then (paired s y.shape) (λ n. limited (copied s counts y n))

-- `x # y`
abbrev pub copy : Array → Array → Result Array Fault
copy x y = and_then (whole_numbers x.atoms) (λ zs. and_then (counts_of zs) (λ counts. copied_by x.shape counts y))

-- the items at indices, in a frame
abbrev pub items_indexed : List ℕ → List ℤ → Array → Result Array Fault
items_indexed frame zs y = and_then (indices_in (tally y.shape) zs) (λ ks. limited (cells_at frame 1 y ks))
