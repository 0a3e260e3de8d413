-- Nouns for the rows of joined nouns that are worked out by hand.
use Rattle.std.specs.Prelude.{ℕ, [], ◌∷◌}
use Prim.Native.Nat.{zero, suc}
use Rattle.j_definitions.specs.Array.{Array}
use Rattle.j_rank.specs.Rows.{boxes_in}

-- a noun in so many boxes, each in the next
abbrev pub in_boxes : ℕ → Array → Array
in_boxes zero a = a
in_boxes (suc n) a = boxes_in [] (in_boxes n a ∷ [])
