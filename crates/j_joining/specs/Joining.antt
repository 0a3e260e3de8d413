-- Joining nouns: by their items, as two items, boxed, and the contents of boxes.
use Rattle.std.specs.Prelude.{ℕ, ◌+◌, max, List, [], ◌∷◌, ◌++◌, length, drop, replicate, map, Option, Some, None, Result, Ok, Err}
use Rattle.j_definitions.specs.Array.{Array, Atom, product, tally, fill_atom, atom_array, boxed, opened}
use Rattle.j_definitions.specs.Cells.{atom_at}
use Rattle.j_definitions.specs.Limits.{limited}
use Rattle.j_definitions.specs.declared.Kind.{Kind}
use Rattle.j_definitions.specs.declared.Kind.TheVariants.{Number, Character, Boxed}
use Rattle.j_definitions.specs.declared.Fault.{Fault}
use Rattle.j_definitions.specs.declared.Fault.TheVariants.{Domain}
use Rattle.j_rank.specs.Assembly.{with_rank, greater_axes, padded, joined_kind, assemble}

-- the first of some elements, so many times
abbrev pub repeated : {X : Type 0} → ℕ → List X → List X
repeated n (x ∷ rest) = replicate n x
repeated n [] = []

abbrev pub shape_beside : List ℕ → List ℕ → List ℕ
shape_beside t [] = t
shape_beside t (n ∷ s) = n ∷ s

abbrev pub atoms_beside : List ℕ → List ℕ → List Atom → List Atom
atoms_beside t [] xs = repeated (product t) xs
atoms_beside t (n ∷ s) xs = xs

-- an atom becomes a noun of shape t, all that atom; any other noun stays
abbrev pub spread : List ℕ → Array → Array
spread t a = record { kind = a.kind; shape = shape_beside t a.shape; atoms = atoms_beside t a.shape a.atoms }

-- the shape of one item of a noun of shape t, as a noun
abbrev pub one_item : List ℕ → List ℕ
one_item t = 1 ∷ drop 1 t

-- the items of a noun of shape s, each brought to the shape c
abbrev pub items_padded : Kind → List ℕ → List ℕ → List Atom → List Atom
items_padded k c s xs = padded (fill_atom k) s (tally s ∷ c) xs

-- the items of shape s, then those of shape t, where s and t have as many axes
abbrev pub joined_items : Kind → List ℕ → List ℕ → List ℕ → List Atom → List Atom → Array
joined_items k c s t xs ys = record { kind = k; shape = (tally s + tally t) ∷ c; atoms = items_padded k c s xs ++ items_padded k c t ys }

-- the shape that the items of both are brought to
abbrev pub common_item : List ℕ → List ℕ → List ℕ
common_item s t = greater_axes (drop 1 s) (drop 1 t)

abbrev pub greater_rank : List ℕ → List ℕ → ℕ
greater_rank s t = max (length s) (length t)

-- two nouns by their items, as one of a kind: a lower rank gets leading axes of 1
abbrev pub joined_by : ℕ → Kind → Array → Array → Array
joined_by n k x y =
    joined_items k (common_item (with_rank n x.shape) (with_rank n y.shape)) (with_rank n x.shape) (with_rank n y.shape) x.atoms y.atoms

abbrev pub joined : Kind → Array → Array → Array
joined k x y = joined_by (greater_rank x.shape y.shape) k x y

abbrev pub joined_as : Option Kind → Array → Array → Result Array Fault
joined_as None x y = Err Domain
joined_as (Some k) x y = limited (joined k x y)

abbrev pub items_joined : Array → Array → Result Array Fault
items_joined x y = joined_as (joined_kind (x ∷ y ∷ [])) x y

-- the items of x, then of y; an atom is an item of the other's item shape
abbrev pub append : Array → Array → Result Array Fault
append x y = items_joined (spread (one_item y.shape) x) (spread (one_item x.shape) y)

-- two items, x and y; an atom is repeated to the other's shape
abbrev pub laminate : Array → Array → Result Array Fault
laminate x y = assemble (2 ∷ []) (spread y.shape x ∷ spread x.shape y ∷ [])

-- the box of a noun
abbrev pub in_box : Array → Result Array Fault
in_box y = limited (atom_array Boxed (boxed y))

-- the content of a box; an atom that isn't boxed is its own
abbrev pub content : Array → Result Array Fault
content y = Ok (opened (atom_at y.atoms 0))

-- two results joined by their items, unless one is a fault, the right one's first
abbrev pub appended : Result Array Fault → Result Array Fault → Result Array Fault
appended r (Err e) = Err e
appended (Err e) (Ok b) = Err e
appended (Ok a) (Ok b) = append a b

-- a noun that is boxed, else the box of it
abbrev pub as_boxes_by : Kind → Array → Result Array Fault
as_boxes_by Boxed y = Ok y
as_boxes_by Number y = in_box y
as_boxes_by Character y = in_box y

-- the box of x, joined to y where y is boxed, else to the box of y
abbrev pub link : Array → Array → Result Array Fault
link x y = appended (in_box x) (as_boxes_by y.kind y)

-- nouns joined by their items, the last two first; none are an empty list of numbers
abbrev pub joined_right : List Array → Result Array Fault
joined_right [] = Ok (record { kind = Number; shape = 0 ∷ []; atoms = [] })
joined_right (a ∷ []) = Ok a
joined_right (a ∷ b ∷ rest) = appended (Ok a) (joined_right (b ∷ rest))

-- the same where one noun alone that is an atom is a list
abbrev pub all_joined : List Array → Result Array Fault
all_joined [] = joined_right []
all_joined (a ∷ []) = limited (spread (1 ∷ []) a)
all_joined (a ∷ b ∷ rest) = joined_right (a ∷ b ∷ rest)

-- the list of all atoms
abbrev pub ravelled : Array → Array
ravelled y = record { kind = y.kind; shape = length y.atoms ∷ []; atoms = y.atoms }

abbrev pub raze_by : Kind → Array → Result Array Fault
raze_by Boxed y = all_joined (map opened y.atoms)
raze_by Number y = limited (ravelled y)
raze_by Character y = limited (ravelled y)

-- the contents of boxes joined; the list of atoms of what isn't boxed
abbrev pub raze : Array → Result Array Fault
raze y = raze_by y.kind y
