-- Numbers in order: `i.` and `i:` and `I.` of one argument.
use Rattle.std.specs.Prelude.{ℕ, ℤ, ◌+◌, ◌-◌, ◌*◌, pos, negsuc, ◌-ℤ◌, unsigned_abs, nat_lt, cond, List, [], ◌∷◌, ◌++◌, map, replicate, length, Result, Err}
use Prim.Native.Nat.{suc}
use Rattle.std.specs.List.{range_with_len}
use Rattle.j_definitions.specs.Array.{Array, Atom, number, byte, nested}
use Rattle.j_definitions.specs.Cells.{atom_at}
use Rattle.j_definitions.specs.Limits.{limited}
use Rattle.j_definitions.specs.declared.Kind.TheVariants.{Number}
use Rattle.j_definitions.specs.declared.Fault.{Fault}
use Rattle.j_definitions.specs.declared.Fault.TheVariants.{Domain, Overflow}
use Rattle.j_rank.specs.Places.{place}
use Rattle.j_indices.specs.Choices.{choices}
use Rattle.j_indices.specs.Numbers.{whole_numbers, counts_of, and_then}

-- place k of an axis, counted from its end where the length is negative
abbrev pub turned : ℤ → ℕ → ℕ
turned (pos n) k = k
turned (negsuc n) k = n - k

abbrev pub places_along : ℤ → List ℕ
places_along length = map (turned length) (range_with_len 0 (unsigned_abs length))

abbrev pub shape_along : List ℤ → List ℕ
shape_along lengths = map unsigned_abs lengths

-- a number more for each place: at each choice of places along the axes, the place in the whole
abbrev pub integers_from : ℕ → List ℤ → List ℤ
integers_from start lengths = map (λ c. pos (start + place (shape_along lengths) c)) (choices (map places_along lengths))

-- 0, 1, .. in the shape of the magnitudes
abbrev pub integers_along : List ℤ → Array
integers_along lengths = record { kind = Number; shape = shape_along lengths; atoms = map number (integers_from 0 lengths) }

-- `i. y`
abbrev pub integers : Array → Result Array Fault
integers y = and_then (whole_numbers y.atoms) (λ lengths. limited (integers_along lengths))

-- from -n to n, or from -n down to n where n is negative
abbrev pub step_of : ℤ → ℕ → ℤ
step_of (pos n) k = pos k -ℤ pos n
step_of (negsuc n) k = pos (suc n) -ℤ pos k

abbrev pub steps_of : ℤ → Array
steps_of z =
    let count = 2 * unsigned_abs z + 1 in
    record { kind = Number; shape = count ∷ []; atoms = map (λ k. number (step_of z k)) (range_with_len 0 count) }

-- -n is a number where its magnitude is below 2^63
abbrev pub steps_at : Atom → Result Array Fault
steps_at (number z) = cond (nat_lt (unsigned_abs z) 9223372036854775808) (limited (steps_of z)) (Err Overflow)
steps_at (byte b) = Err Domain
steps_at (nested k s r) = Err Domain

-- `i: y`, where y is an atom
abbrev pub steps_around : Array → Result Array Fault
steps_around y = steps_at (atom_at y.atoms 0)

-- k, n_k times, for each k from i on
abbrev pub repeated_from : ℕ → List ℕ → List ℕ
repeated_from i [] = []
repeated_from i (n ∷ counts) = replicate n i ++ repeated_from (i + 1) counts

abbrev pub numbered : List ℕ → Array
numbered ks = record { kind = Number; shape = length ks ∷ []; atoms = map (λ k. number (pos k)) ks }

-- `I. y`
abbrev pub indices_of_ones : Array → Result Array Fault
indices_of_ones y = and_then (whole_numbers y.atoms) (λ zs. and_then (counts_of zs) (λ counts. limited (numbered (repeated_from 0 counts))))
