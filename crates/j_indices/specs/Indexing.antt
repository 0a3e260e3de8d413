-- `x { y`: items, and cells along several axes.
use Rattle.std.specs.Prelude.{ℕ, ◌+◌, ◌<◌, ℤ, Bool, true, false, nat_lt, cond, List, [], ◌∷◌, length, map, take, Option, Some, None, Result, Err}
use Rattle.std.specs.List.{All, flat_map, list_any}
use Rattle.j_definitions.specs.Array.{Array, Atom, number, byte, nested, opened, atoms_in, tally}
use Rattle.j_definitions.specs.Cells.{atom_at, in_order}
use Rattle.j_definitions.specs.Limits.{limited}
use Rattle.j_definitions.specs.declared.Kind.{Kind}
use Rattle.j_definitions.specs.declared.Kind.TheVariants.{Number, Character, Boxed}
use Rattle.j_definitions.specs.declared.Fault.{Fault}
use Rattle.j_definitions.specs.declared.Fault.TheVariants.{Domain, Rank, Length, Nonce}
use Rattle.j_rank.specs.Places.{place}
use Rattle.j_indices.specs.Choices.{choices}
use Rattle.j_indices.specs.Numbers.{whole_numbers, indices_in, and_then}
use Rattle.j_indices.specs.Selecting.{cells_at, items_indexed}

abbrev pub is_of : Kind → Atom → Bool
is_of Number (number z) = true
is_of Character (byte b) = true
is_of Boxed (nested k s r) = true
is_of _ _ = false

-- whether one of these nouns has an atom of a kind
abbrev pub any_of_kind : Kind → List Array → Bool
any_of_kind k nouns = list_any (λ a. list_any (is_of k) a.atoms) nouns

-- what is wrong with index nouns in a box of a rank, whatever their numbers: boxes, characters, a box of no list, more of them than axes
abbrev pub index_fault : ℕ → List Array → List ℕ → Option Fault
index_fault rank nouns s =
    cond (any_of_kind Boxed nouns) (Some Nonce)
    (cond (any_of_kind Character nouns) (Some Domain) (cond (nat_lt 1 rank) (Some Rank) (cond (nat_lt (length s) (length nouns)) (Some Length) None)))

abbrev pub unless_fault : Option Fault → Result Array Fault → Result Array Fault
unless_fault (Some e) r = Err e
unless_fault None r = r

-- the places that each index noun takes along the axis of its turn
abbrev pub places_in : List ℕ → List Array → List (Result (List ℕ) Fault)
places_in (n ∷ s) (a ∷ nouns) = and_then (whole_numbers a.atoms) (indices_in n) ∷ places_in s nouns
places_in _ _ = []

-- places within their axes
abbrev pub AreInside : List ℕ → List (List ℕ) → Type 0
AreInside [] [] = Unit {0}
AreInside (n ∷ s) [] = Unit {0}
AreInside [] (ks ∷ rest) = ⊥
AreInside (n ∷ s) (ks ∷ rest) = All (λ k. k < n) ks × AreInside s rest

-- the places of all choices in the whole, from one on
abbrev pub places_from : ℕ → List ℕ → List (List ℕ) → List ℕ
places_from start s taken = map (λ c. start + place s c) (choices taken)

-- the cells at all choices of places along the leading axes, in the index nouns' shapes joined
abbrev pub cells_chosen : List Array → Array → List (List ℕ) → Array
cells_chosen nouns y taken = cells_at (flat_map (λ a. a.shape) nouns) (length nouns) y (map (place (take (length nouns) y.shape)) (choices taken))

-- a noun of indices for each leading axis, which stand in a box of a rank
abbrev pub along_axes : ℕ → List Array → Array → Result Array Fault
along_axes rank nouns y = unless_fault (index_fault rank nouns y.shape) (and_then (in_order (places_in y.shape nouns)) (λ taken. limited (cells_chosen nouns y taken)))

-- a number takes an item; of what is in a box each number, or what each box holds, is the index noun of an axis
abbrev pub from_at : Atom → Array → Result Array Fault
from_at (number z) y = items_indexed [] (z ∷ []) y
from_at (byte b) y = Err Domain
from_at (nested k s r) y = along_axes (length s) (map opened (atoms_in r)) y

-- `x { y`, where x is an atom
abbrev pub from : Array → Array → Result Array Fault
from x y = from_at (atom_at x.atoms 0) y

-- `x { y` where x is any noun of numbers: item by item; where x has none, as item 0 says what an item is, or else the number 0
abbrev pub from_numbers : List ℕ → List ℤ → Array → Result Array Fault
from_numbers s (z ∷ zs) y = items_indexed s (z ∷ zs) y
from_numbers s [] y = cond (nat_lt 0 (tally y.shape)) (limited (cells_at s 1 y [])) (limited (record { kind = Number; shape = s; atoms = [] }))

abbrev pub from_list : Array → Array → Result Array Fault
from_list x y = and_then (whole_numbers x.atoms) (λ zs. from_numbers x.shape zs y)
