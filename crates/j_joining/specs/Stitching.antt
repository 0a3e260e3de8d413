-- Two nouns joined item by item.
use Rattle.std.specs.Prelude.{ℕ, ◌/◌, List, [], ◌∷◌, map, pos, negsuc, Result, Ok, Err}
use Prim.Native.Nat.{zero, suc}
use Rattle.std.specs.List.{range_with_len}
use Rattle.j_definitions.specs.Array.{Array, number, atom_array, product}
use Rattle.j_definitions.specs.Cells.{in_order}
use Rattle.j_definitions.specs.Limits.{limited}
use Rattle.j_definitions.specs.declared.Fault.{Fault}
use Rattle.j_definitions.specs.declared.Kind.TheVariants.{Number as NumberKind}
use Rattle.j_noun.specs.declared.ranks.Rank.{Rank}
use Rattle.j_noun.specs.declared.ranks.Rank.TheVariants.{Number}
use Rattle.j_rank.specs.Assembly.{assemble}
use Rattle.j_rank.specs.Cells.{cell, cell_of_fills}
use Rattle.j_rank.specs.Plans.{Planned, dyad_plan}
use Rattle.j_joining.specs.Joining.{append, appended}

-- the rank by which each item is a cell
abbrev pub item : Rank
item = Number (negsuc 0)

-- the items that meet at place k of the frame, joined
abbrev pub pair_joined : Planned → Array → Array → ℕ → Result Array Fault
pair_joined p x y k = append (cell p.left x (k / p.agreed.left)) (cell p.right y (k / p.agreed.right))

abbrev pub then_assembled : List ℕ → Result (List Array) Fault → Result Array Fault
then_assembled frame (Ok rs) = assemble frame rs
then_assembled frame (Err e) = Err e

-- the results of all pairs, up to the first fault
abbrev pub all_joined_pairs : Planned → Array → Array → Result (List Array) Fault
all_joined_pairs p x y = in_order (map (pair_joined p x y) (range_with_len 0 (product p.agreed.frame)))

-- the results of all pairs as one noun
abbrev pub pairs_joined : Planned → Array → Array → Result Array Fault
pairs_joined p x y = then_assembled p.agreed.frame (all_joined_pairs p x y)

-- two items of fills, joined
abbrev pub fills_joined : Planned → Array → Array → Result Array Fault
fills_joined p x y = appended (limited (cell_of_fills p.left x)) (limited (cell_of_fills p.right y))

-- the number 0 in place of a fault
abbrev pub or_zero : Result Array Fault → Array
or_zero (Ok a) = a
or_zero (Err e) = atom_array NumberKind (number (pos 0))

-- the noun of no pairs, whose kind and item the items of fills say
abbrev pub no_pairs_joined : Planned → Array → Array → Result Array Fault
no_pairs_joined p x y = assemble p.agreed.frame (or_zero (fills_joined p x y) ∷ [])

abbrev pub stitched_by : ℕ → Planned → Array → Array → Result Array Fault
stitched_by zero p x y = no_pairs_joined p x y
stitched_by (suc n) p x y = pairs_joined p x y

abbrev pub stitched : Result Planned Fault → Array → Array → Result Array Fault
stitched (Err e) x y = Err e
stitched (Ok p) x y = stitched_by (product p.agreed.frame) p x y

-- each item of x joined to that of y; an atom is joined to each
abbrev pub stitch : Array → Array → Result Array Fault
stitch x y = stitched (dyad_plan item item x.shape y.shape) x y
