-- The shape, the atoms and the items of a noun, and verbs that keep items in other places. An atom counts as a list of one item.
use Rattle.std.specs.Prelude.{ℕ, ◌-◌, ◌*◌, pos, nat_eq, cond, List, [], ◌∷◌, length, map, take, drop, reverse, replicate, Result, Ok}
use Rattle.std.specs.List.{flat_map, range_with_len}
use Rattle.j_definitions.specs.Array.{Array, number, tally, fill_atom, atom_array}
use Rattle.j_definitions.specs.Items.{item_size, item}
use Rattle.j_definitions.specs.Limits.{limited}
use Rattle.j_definitions.specs.declared.Fault.{Fault}
use Rattle.j_definitions.specs.declared.Kind.TheVariants.{Number}

-- the atoms of y in another shape
abbrev pub reshaped : List ℕ → Array → Array
reshaped s y = record { kind = y.kind; shape = s; atoms = y.atoms }

-- `$ y`: the shape, a list
abbrev pub shape_of : Array → Result Array Fault
shape_of y = Ok (record { kind = Number; shape = length y.shape ∷ []; atoms = map (λ n. number (pos n)) y.shape })

-- `# y`: the number of items
abbrev pub tally_of : Array → Result Array Fault
tally_of y = Ok (atom_array Number (number (pos (tally y.shape))))

-- `, y`: the list of atoms
abbrev pub ravel : Array → Result Array Fault
ravel y = limited (reshaped (length y.atoms ∷ []) y)

-- `,. y`: each item as a list
abbrev pub ravel_items : Array → Result Array Fault
ravel_items y = limited (reshaped (tally y.shape ∷ item_size y.shape ∷ []) y)

-- `,: y`: a leading axis of 1
abbrev pub itemize : Array → Result Array Fault
itemize y = limited (reshaped (1 ∷ y.shape) y)

-- the places of the items, in order
abbrev pub places : Array → List ℕ
places y = range_with_len 0 (tally y.shape)

-- the items at these places
abbrev pub items_at : List ℕ → Array → Array
items_at ks y = record { kind = y.kind; shape = length ks ∷ drop 1 y.shape; atoms = flat_map (item y) ks }

-- `|. y`: the items in reverse
abbrev pub reversed : Array → Result Array Fault
reversed y = limited (items_at (reverse (places y)) y)

-- `}. y`: all items but the first
abbrev pub beheaded : Array → Result Array Fault
beheaded y = limited (items_at (drop 1 (places y)) y)

-- `}: y`: all items but the last
abbrev pub curtailed : Array → Result Array Fault
curtailed y = limited (items_at (take (tally y.shape - 1) (places y)) y)

-- the item at a place, or an item of fills where there are no items
abbrev pub item_or_fills : ℕ → Array → Array
item_or_fills k y =
    record {
      kind = y.kind;
      shape = drop 1 y.shape;
      atoms = cond (nat_eq (tally y.shape) 0) (replicate (item_size y.shape) (fill_atom y.kind)) (item y k);
    }

-- `{. y`: the first item
abbrev pub head : Array → Result Array Fault
head y = limited (item_or_fills 0 y)

-- `{: y`: the last item
abbrev pub tail : Array → Result Array Fault
tail y = limited (item_or_fills (tally y.shape - 1) y)

-- the parts of that size at these places, of any elements: for the crate's own functions
abbrev pub parts_at : {X : Type 0} → ℕ → List X → List ℕ → List X
parts_at size xs ks = flat_map (λ k. take size (drop (k * size) xs)) ks
