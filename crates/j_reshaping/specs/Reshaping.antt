-- The items of a noun in another shape.
use Rattle.std.specs.Prelude.{ℕ, ◌%◌, pos, negsuc, Bool, ◌&&◌, not, nat_eq, cond, List, ◌++◌, map, drop, Result, Ok, Err}
use Rattle.std.specs.List.{flat_map, range_with_len}
use Rattle.j_definitions.specs.Array.{Array, Atom, number, byte, nested, product, tally}
use Rattle.j_definitions.specs.Cells.{in_order}
use Rattle.j_definitions.specs.Items.{item}
use Rattle.j_definitions.specs.Limits.{limited}
use Rattle.j_definitions.specs.declared.Fault.{Fault}
use Rattle.j_definitions.specs.declared.Fault.TheVariants.{Domain, Length}

-- the axis length that an atom is: a number that isn't negative
abbrev pub length_of : Atom → Result ℕ Fault
length_of (number (pos n)) = Ok n
length_of (number (negsuc n)) = Err Domain
length_of (byte b) = Err Domain
length_of (nested k s r) = Err Domain

-- n items in order, from the first one again after the last
abbrev pub items_repeated : ℕ → Array → List Atom
items_repeated n y = flat_map (λ k. item y (k % tally y.shape)) (range_with_len 0 n)

-- items are needed, and there are none
abbrev pub wants_items : List ℕ → Array → Bool
wants_items s y = nat_eq (tally y.shape) 0 && not (nat_eq (product s) 0)

-- the items repeated in order to the shape s followed by the item's shape
abbrev pub in_shape : List ℕ → Array → Array
in_shape s y = record { kind = y.kind; shape = s ++ drop 1 y.shape; atoms = items_repeated (product s) y }

abbrev pub reshaped : Result (List ℕ) Fault → Array → Result Array Fault
reshaped (Ok s) y = cond (wants_items s y) (Err Length) (limited (in_shape s y))
reshaped (Err e) y = Err e

-- `x $ y`
abbrev pub reshape : Array → Array → Result Array Fault
reshape x y = reshaped (in_order (map length_of x.atoms)) y
