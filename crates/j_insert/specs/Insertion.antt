-- The items of a noun, from the last to the first.
use Rattle.std.specs.Prelude.{ℕ, List, [], ◌∷◌, map, reverse, Option, Some, None}
use Rattle.std.specs.List.{range_with_len}
use Rattle.j_definitions.specs.Array.{Array, tally}
use Rattle.j_rank.specs.Cells.{cell}

-- a noun, and how many of its items are still to come
pub record Remaining : Type 0 where
  pub noun : Array
  pub left : ℕ

-- all items of a noun; an atom is its own item
abbrev pub all_items : Array → Remaining
all_items y = record { noun = y; left = tally y.shape }

-- the items that are still to come, in their order: the first items in reverse
abbrev pub items_from_right : Remaining → List Array
items_from_right r = reverse (map (cell 1 r.noun) (range_with_len 0 r.left))

-- the first of nouns, or none
abbrev pub first_noun : List Array → Option Array
first_noun [] = None
first_noun (a ∷ rest) = Some a
