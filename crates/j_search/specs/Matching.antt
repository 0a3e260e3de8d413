-- The items that match: the first and the last of them, the nub, and what is no item.
use Rattle.std.specs.Prelude.{ℕ, pos, ◌-◌, Bool, nat_eq, not, cond, List, [], ◌∷◌, length, map, take, drop, reverse, filter, Result, Ok}
use Rattle.std.specs.List.{range_with_len, flat_map, list_any}
use lib.ListN.{get_or}
use Rattle.j_definitions.specs.Array.{Array, Atom, number, product, tally, arrays_match}
use Rattle.j_definitions.specs.Items.{item}
use Rattle.j_definitions.specs.Limits.{limited}
use Rattle.j_definitions.specs.declared.Kind.TheVariants.{Number}
use Rattle.j_definitions.specs.declared.Fault.{Fault}
use Rattle.j_rank.specs.Cells.{cell}

-- the places below n
abbrev pub places : ℕ → List ℕ
places n = range_with_len 0 n

-- item k as a noun; an atom counts as a list of one item
abbrev pub item_of : Array → ℕ → Array
item_of a k = cell 1 a k

-- the axes of y that are the frame of its cells of the rank of x's items: none where y has a lower rank
abbrev pub frame_for : Array → Array → ℕ
frame_for x y = length y.shape - length (drop 1 x.shape)

-- how many such cells there are, and cell k
abbrev pub cells_for : Array → Array → ℕ
cells_for x y = product (take (frame_for x y) y.shape)

abbrev pub cell_for : Array → Array → ℕ → Array
cell_for x y k = cell (frame_for x y) y k

-- the first of the places below n that passes a test, or n where none does; and the last
abbrev pub first_of : (ℕ → Bool) → ℕ → ℕ
first_of p n = get_or (filter p (places n)) 0 n

abbrev pub last_of : (ℕ → Bool) → ℕ → ℕ
last_of p n = get_or (reverse (filter p (places n))) 0 n

-- the first item of x that matches a noun, or the number of items; and the last
abbrev pub first_item : Array → Array → ℕ
first_item x c = first_of (λ j. arrays_match (item_of x j) c) (tally x.shape)

abbrev pub last_item : Array → Array → ℕ
last_item x c = last_of (λ j. arrays_match (item_of x j) c) (tally x.shape)

-- whether an item of x matches a noun
abbrev pub has_item : Array → Array → Bool
has_item x c = list_any (λ j. arrays_match (item_of x j) c) (places (tally x.shape))

abbrev pub bit : Bool → Atom
bit b = number (pos (cond b 1 0))

-- one atom for each cell of y of the rank of x's items
abbrev pub for_each_cell : Array → Array → (Array → Atom) → Result Array Fault
for_each_cell x y f =
    limited (record { kind = Number; shape = take (frame_for x y) y.shape; atoms = map (λ k. f (cell_for x y k)) (places (cells_for x y)) })

abbrev pub index_of : Array → Array → Result Array Fault
index_of x y = for_each_cell x y (λ c. number (pos (first_item x c)))

abbrev pub last_index_of : Array → Array → Result Array Fault
last_index_of x y = for_each_cell x y (λ c. number (pos (last_item x c)))

abbrev pub member : Array → Array → Result Array Fault
member x y = for_each_cell y x (λ c. bit (has_item y c))

-- the items of a at these places
abbrev pub items_at : Array → List ℕ → Array
items_at a ks = record { kind = a.kind; shape = length ks ∷ drop 1 a.shape; atoms = flat_map (item a) ks }

-- item k is the first that matches it
abbrev pub is_first : Array → ℕ → Bool
is_first a k = nat_eq (first_item a (item_of a k)) k

-- the places of the nub's items
abbrev pub firsts : Array → List ℕ
firsts a = filter (is_first a) (places (tally a.shape))

abbrev pub nub : Array → Result Array Fault
nub a = limited (items_at a (firsts a))

abbrev pub nub_sieve : Array → Result Array Fault
nub_sieve a = limited (record { kind = Number; shape = tally a.shape ∷ []; atoms = map (λ k. bit (is_first a k)) (places (tally a.shape)) })

-- for each item of the nub a row
abbrev pub self_classify : Array → Result Array Fault
self_classify a =
    limited (record {
      kind = Number;
      shape = length (firsts a) ∷ tally a.shape ∷ [];
      atoms = flat_map (λ i. map (λ j. bit (arrays_match (item_of a i) (item_of a j))) (places (tally a.shape))) (firsts a);
    })

-- whether a cell of y matches item j of x
abbrev pub is_cell : Array → Array → ℕ → Bool
is_cell x y j = list_any (λ k. arrays_match (cell_for x y k) (item_of x j)) (places (cells_for x y))

abbrev pub less : Array → Array → Result Array Fault
less x y = limited (items_at x (filter (λ j. not (is_cell x y j)) (places (tally x.shape))))

abbrev pub match_of : Array → Array → Result Array Fault
match_of x y = Ok (record { kind = Number; shape = []; atoms = bit (arrays_match x y) ∷ [] })
