-- The axes of a noun in another order.
use Rattle.std.specs.Prelude.{ℕ, ℤ, ◌+◌, ◌*◌, ◌+ℤ◌, pos, negsuc, Bool, false, ◌||◌, not, nat_eq, nat_lt, cond, List, [], ◌∷◌, ◌++◌, length, map, drop, reverse, Result, Ok, Err}
use Rattle.std.specs.List.{flat_map, filter, list_any, range_with_len}
use Rattle.std.specs.Ordering.{int_eq}
use lib.ListN.{get_or}
use Rattle.j_definitions.specs.Array.{Array, Atom, number, byte, nested, product}
use Rattle.j_definitions.specs.Cells.{atom_at, in_order}
use Rattle.j_definitions.specs.Limits.{limited}
use Rattle.j_definitions.specs.declared.Fault.{Fault}
use Rattle.j_definitions.specs.declared.Fault.TheVariants.{Domain, Index}

-- the places from a start, along axes of so many indices: one step along each passes so many atoms
abbrev pub places : ℕ → List ℕ → List ℕ → List ℕ
places start (n ∷ lengths) (d ∷ steps) = flat_map (λ i. places (start + i * d) lengths steps) (range_with_len 0 n)
places start _ _ = start ∷ []

-- how long an axis is
abbrev pub axis_length : List ℕ → ℕ → ℕ
axis_length s a = get_or s a 0

-- how many atoms one step along an axis passes
abbrev pub axis_step : List ℕ → ℕ → ℕ
axis_step s a = product (drop (a + 1) s)

-- y with its axes in that order
abbrev pub with_axes : List ℕ → Array → Array
with_axes order y =
    record { kind = y.kind; shape = map (axis_length y.shape) order; atoms = map (atom_at y.atoms) (places 0 (map (axis_length y.shape) order) (map (axis_step y.shape) order)) }

-- the axes of n in order
abbrev pub axes_of : ℕ → List ℕ
axes_of n = range_with_len 0 n

-- `|: y`
abbrev pub transpose : Array → Result Array Fault
transpose y = limited (with_axes (reverse (axes_of (length y.shape))) y)

-- the axis that an atom counts, of n, from the end where it is negative
abbrev pub counted : ℕ → Atom → Result ℤ Fault
counted n (number (pos k)) = Ok (pos k)
counted n (number (negsuc k)) = Ok (negsuc k +ℤ pos n)
counted n (byte b) = Err Domain
counted n (nested k s r) = Err Domain

-- a number stands twice in a list
abbrev pub repeats : List ℤ → Bool
repeats [] = false
repeats (z ∷ rest) = list_any (int_eq z) rest || repeats rest

-- an axis of n
abbrev pub axis_of : ℕ → ℤ → Result ℕ Fault
axis_of n (pos k) = cond (nat_lt k n) (Ok k) (Err Index)
axis_of n (negsuc k) = Err Index

-- an axis isn't in a list
abbrev pub is_other : List ℕ → ℕ → Bool
is_other axes a = not (list_any (λ b. nat_eq b a) axes)

-- the axes of n that aren't in a list
abbrev pub others : ℕ → List ℕ → List ℕ
others n axes = filter (is_other axes) (axes_of n)

-- the axes last, in that order, and the others before
abbrev pub axes_last : Result (List ℕ) Fault → Array → Result Array Fault
axes_last (Ok axes) y = limited (with_axes (others (length y.shape) axes ++ axes) y)
axes_last (Err e) y = Err e

abbrev pub counted_last : Result (List ℤ) Fault → Array → Result Array Fault
counted_last (Ok zs) y = cond (repeats zs) (Err Domain) (axes_last (in_order (map (axis_of (length y.shape)) zs)) y)
counted_last (Err e) y = Err e

-- `x |: y`
abbrev pub transpose_by : Array → Array → Result Array Fault
transpose_by x y = counted_last (in_order (map (counted (length y.shape)) x.atoms)) y
