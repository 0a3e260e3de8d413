-- Nouns brought to a shape, side by side in one buffer. For the crate's own functions.
use Rattle.std.specs.Prelude.{◌≡◌, ℕ, ◌<◌, ◌≤◌, ◌+◌, Bool, nat_eq, cond, List, [], ◌∷◌, ◌++◌, length, Option, Some, None}
use Rattle.std.specs.List.{flat_map}
use Rattle.j_definitions.specs.Array.{Array, Atom, product, tally, fill_atom, IsNoun}
use Rattle.j_definitions.specs.declared.Kind.{Kind}
use Rattle.j_rank.specs.Assembly.{with_rank, greater_axes, padded, same_kind}
use Rattle.j_rank.specs.Joined.{Joins}
use Rattle.j_rank.specs.Places.{IsUnder}
use Rattle.j_joining.specs.Joining.{repeated, shape_beside, atoms_beside, one_item, common_item, greater_rank}

-- the elements of a noun of shape s, brought to the shape t: an atom is repeated, and any other noun is padded
abbrev pub brought : {X : Type 0} → X → List ℕ → List ℕ → List X → List X
brought z t [] xs = repeated (product t) xs
brought z t (n ∷ s) xs = padded z (with_rank (length t) (n ∷ s)) t xs

-- an atom fits each shape, and any other noun one that is nowhere shorter
abbrev pub Fits : List ℕ → List ℕ → Type 0
Fits t [] = Unit {0}
Fits t (n ∷ s) = IsUnder (with_rank (length t) (n ∷ s)) t

-- a noun may be brought to a shape, among atoms of a kind
pub record IsGroup (k : Kind) (a : Array) (t : List ℕ) : Type 0 where
  pub rank : length a.shape ≤ length t
  pub few : length t ≤ 32
  pub fits : Fits t a.shape
  pub joins : 0 < product t → Joins k a

abbrev pub group_atoms : Kind → Array → List ℕ → List Atom
group_atoms k a t = brought (fill_atom k) t a.shape a.atoms

-- two nouns of a kind, brought to two shapes, as one noun
abbrev pub groups : Kind → List ℕ → Array → List ℕ → Array → List ℕ → Array
groups k shape x s y t = record { kind = k; shape = shape; atoms = group_atoms k x s ++ group_atoms k y t }

-- the kind of two nouns together, by whether each has no atoms
abbrev pub two_kinds : Kind → Bool → Kind → Bool → Option Kind
two_kinds k bare l less = cond bare (cond less (Some k) (Some l)) (cond less (Some k) (cond (same_kind k l) (Some k) None))

-- the rank that nouns of shapes s and t have beside each other
abbrev pub rank_beside : List ℕ → List ℕ → ℕ
rank_beside s t = greater_rank (shape_beside (one_item t) s) (shape_beside (one_item s) t)

-- the shapes of two nouns beside each other, brought to one rank
abbrev pub left_axes : List ℕ → List ℕ → List ℕ
left_axes s t = with_rank (rank_beside s t) (shape_beside (one_item t) s)

abbrev pub right_axes : List ℕ → List ℕ → List ℕ
right_axes s t = with_rank (rank_beside s t) (shape_beside (one_item s) t)

abbrev pub item_beside : List ℕ → List ℕ → List ℕ
item_beside s t = common_item (left_axes s t) (right_axes s t)

-- the shapes that two nouns are brought to, and the shape of their items together
abbrev pub left_group : List ℕ → List ℕ → List ℕ
left_group s t = tally (left_axes s t) ∷ item_beside s t

abbrev pub right_group : List ℕ → List ℕ → List ℕ
right_group s t = tally (right_axes s t) ∷ item_beside s t

abbrev pub both_groups : List ℕ → List ℕ → List ℕ
both_groups s t = (tally (left_axes s t) + tally (right_axes s t)) ∷ item_beside s t

-- whether a noun of shape s is without atoms where an atom is spread to shape t
abbrev pub is_bare : List ℕ → List ℕ → List Atom → Bool
is_bare t s xs = nat_eq (length (atoms_beside t s xs)) 0

-- the shape that two nouns of shapes s and t are brought to as items
abbrev pub common_by : ℕ → List ℕ → List ℕ → List ℕ
common_by n s t = greater_axes (with_rank n (shape_beside t s)) (with_rank n (shape_beside s t))

abbrev pub common_beside : List ℕ → List ℕ → List ℕ
common_beside s t = common_by (greater_rank s t) s t

-- an atom or a list of a kind
pub record IsListOf (k : Kind) (a : Array) : Type 0 where
  pub noun : IsNoun a
  pub flat : length a.shape ≤ 1
  pub kind : a.kind ≡ k

-- the atoms of nouns, one after the other
abbrev pub all_atoms : List Array → List Atom
all_atoms nouns = flat_map (λ a. a.atoms) nouns

-- a list of atoms
abbrev pub list_of : Kind → List Atom → Array
list_of k xs = record { kind = k; shape = length xs ∷ []; atoms = xs }
