-- Pieces of a noun: its items at some places.
use Rattle.std.specs.Prelude.{ℕ, ◌*◌, List, [], ◌∷◌, length, map, take, drop, refl}
use Rattle.std.specs.List.{flat_map, range_with_len}
use Rattle.std.specs.Coded.{Coded, code_by, coded×, coded_list}
use Rattle.j_definitions.specs.Array.{Array}
use Rattle.j_definitions.specs.Items.{item}
use Rattle.j_definitions.specs.Stored.{array_code}

-- the pieces in order, and the noun without items that stands for a piece where there is none
pub record Pieced : Type 0 where
  pub pieces : List Array
  pub no_items : Array

abbrev pub pieced_code : Coded Pieced
pieced_code = code_by (List Array × Array) (coded× (coded_list array_code) array_code) (λ p. (p.pieces, p.no_items)) (λ p. record { pieces = p.0; no_items = p.1 }) (λ _. refl)

-- the places of n items
abbrev pub places : ℕ → List ℕ
places n = range_with_len 0 n

-- the items of y at these places; an atom counts as a list of one item
abbrev pub items_at : Array → List ℕ → Array
items_at y ks = record { kind = y.kind; shape = length ks ∷ drop 1 y.shape; atoms = flat_map (item y) ks }

-- the pieces of y at these lists of places, and `0 {. y`
abbrev pub pieces_at : Array → List (List ℕ) → Pieced
pieces_at y kss = record { pieces = map (items_at y) kss; no_items = items_at y [] }

-- the parts of that size at these places, of any elements
abbrev pub parts_at : {X : Type 0} → ℕ → List X → List ℕ → List X
parts_at size xs ks = flat_map (λ k. take size (drop (k * size) xs)) ks
