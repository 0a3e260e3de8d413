-- Verbs that keep the places of each axis that a list of numbers tells: take, drop and rotate.
use Rattle.std.specs.Prelude.{ℕ, ℤ, ◌+◌, ◌-◌, ◌*◌, pos, negsuc, max, nat_le, cond, List, [], ◌∷◌, ◌++◌, length, map, take, drop, replicate, Option, Some, None, Result, Ok, Err}
use Rattle.std.specs.List.{flat_map, range_with_len}
use Rattle.std.specs.Int.{int_rem_euclid}
use Rattle.std.specs.Int.RustNames.{unsigned_abs}
use Rattle.j_definitions.specs.Array.{Array, Atom, number, byte, nested, product, fill_atom}
use Rattle.j_definitions.specs.Cells.{in_order}
use Rattle.j_definitions.specs.Limits.{limited}
use Rattle.j_definitions.specs.declared.Fault.{Fault}
use Rattle.j_definitions.specs.declared.Fault.TheVariants.{Domain, Length}
use Rattle.j_places.specs.declared.axis.Keeping.{Keeping}
use Rattle.j_places.specs.declared.axis.Keeping.TheVariants.{Taken, Dropped, Rotated}

-- the first k, or the last ones where k is negative; z stands behind or before them where there are fewer
abbrev pub taken : {X : Type 0} → ℤ → X → List X → List X
taken (pos k) z xs = take k (xs ++ replicate k z)
taken (negsuc k) z xs = drop (length xs) (replicate (k + 1) z ++ xs)

-- all but the first k, or but the last ones where k is negative
abbrev pub dropped : {X : Type 0} → ℤ → List X → List X
dropped (pos k) xs = drop k xs
dropped (negsuc k) xs = take (length xs - (k + 1)) xs

-- moved left by k, round the end
abbrev pub rotated : {X : Type 0} → ℤ → List X → List X
rotated k xs = let m = unsigned_abs (int_rem_euclid k (pos (length xs))) in drop m xs ++ take m xs

-- the places of an axis of n items that are kept, in order; an item of fills has none
abbrev pub kept : Keeping → ℤ → ℕ → List (Option ℕ)
kept Taken k n = taken k None (map Some (range_with_len 0 n))
kept Dropped k n = dropped k (map Some (range_with_len 0 n))
kept Rotated k n = rotated k (map Some (range_with_len 0 n))

-- the same for each axis that has a number
abbrev pub kept_axes : Keeping → List ℤ → List ℕ → List (List (Option ℕ))
kept_axes way (k ∷ ks) (n ∷ s) = kept way k n ∷ kept_axes way ks s
kept_axes way _ _ = []

-- as many items along each axis as places are kept; the other axes are whole
abbrev pub kept_shape : List (List (Option ℕ)) → List ℕ → List ℕ
kept_shape (ps ∷ more) (n ∷ s) = length ps ∷ kept_shape more s
kept_shape _ s = s

-- what stands at a place, or fills
abbrev pub at_place : {X : Type 0} → (ℕ → List X) → List X → Option ℕ → List X
at_place item fills (Some k) = item k
at_place item fills None = fills

-- the atoms at the kept places: along the first axis the items, and of each item what is kept along the other axes
abbrev pub kept_atoms : {X : Type 0} → X → List (List (Option ℕ)) → List ℕ → List X → List X
kept_atoms z (ps ∷ more) (n ∷ s) xs =
    flat_map (at_place (λ k. kept_atoms z more s (take (product s) (drop (k * product s) xs))) (replicate (product (kept_shape more s)) z)) ps
kept_atoms z _ _ xs = xs

abbrev pub axes_or_ones : ℕ → List ℕ → List ℕ
axes_or_ones n [] = replicate n 1
axes_or_ones n (m ∷ s) = m ∷ s

-- an atom has as many axes of 1 as there are numbers, unless it is rotated
abbrev pub axes_for : Keeping → ℕ → List ℕ → List ℕ
axes_for Taken n s = axes_or_ones n s
axes_for Dropped n s = axes_or_ones n s
axes_for Rotated n s = s

-- the kept places of a noun of that shape
abbrev pub keep : List (List (Option ℕ)) → List ℕ → Array → Array
keep ps s y = record { kind = y.kind; shape = kept_shape ps s; atoms = kept_atoms (fill_atom y.kind) ps s y.atoms }

-- the numbers, or `domain error` where an atom isn't a number
abbrev pub number_of : Atom → Result ℤ Fault
number_of (number z) = Ok z
number_of (byte b) = Err Domain
number_of (nested k s r) = Err Domain

abbrev pub numbers : Array → Result (List ℤ) Fault
numbers x = in_order (map number_of x.atoms)

-- more numbers than axes are `length error`, where an atom has one
abbrev pub kept_by : Keeping → Result (List ℤ) Fault → Array → Result Array Fault
kept_by way (Ok ks) y =
    cond (nat_le (length ks) (max (length (axes_for way (length ks) y.shape)) 1))
    (limited (keep (kept_axes way ks (axes_for way (length ks) y.shape)) (axes_for way (length ks) y.shape) y))
    (Err Length)
kept_by way (Err e) y = Err e

-- `x {. y`, `x }. y` and `x |. y`
abbrev pub take_axes : Array → Array → Result Array Fault
take_axes x y = kept_by Taken (numbers x) y

abbrev pub drop_axes : Array → Array → Result Array Fault
drop_axes x y = kept_by Dropped (numbers x) y

abbrev pub rotate_axes : Array → Array → Result Array Fault
rotate_axes x y = kept_by Rotated (numbers x) y
