-- What a noun is: a kind, a shape and a list of atoms.
use Rattle.std.specs.Prelude.{◌≡◌, ℕ, ℤ, pos, ◌+◌, ◌*◌, ◌≤◌, max, Bool, true, false, ◌&&◌, ◌==◌, List, [], ◌∷◌, length}
use Rattle.std.specs.List.{sum_by, All}
use Rattle.std.specs.Ordering.{int_eq}
use Rattle.std.specs.Cmp.Lexicographic.{pointwise}
use Rattle.j_definitions.specs.declared.Kind.{Kind}
use Rattle.j_definitions.specs.declared.Kind.TheVariants.{Number, Character, Boxed}

mutual
  -- a number, a byte, or a noun in a box: its kind, its shape and its atoms
  pub data Atom : Type 0 where
    number : ℤ → Atom
    byte : ℕ → Atom
    nested : Kind → List ℕ → Row → Atom

  -- a list of atoms, as it stands in a box
  pub data Row : Type 0 where
    row_end : Row
    row_more : Atom → Row → Row

pub record Array : Type 0 where
  pub kind : Kind
  pub shape : List ℕ
  pub atoms : List Atom

abbrev pub row_of : List Atom → Row
row_of [] = row_end
row_of (x ∷ rest) = row_more x (row_of rest)

abbrev pub atoms_in : Row → List Atom
atoms_in row_end = []
atoms_in (row_more x rest) = x ∷ atoms_in rest

-- the box that holds a noun
abbrev pub boxed : Array → Atom
boxed a = nested a.kind a.shape (row_of a.atoms)

-- what a box holds, and an atom that is not boxed is its own noun
abbrev pub opened : Atom → Array
opened (number z) = record { kind = Number; shape = []; atoms = number z ∷ [] }
opened (byte b) = record { kind = Character; shape = []; atoms = byte b ∷ [] }
opened (nested k s r) = record { kind = k; shape = s; atoms = atoms_in r }

abbrev pub atom_array : Kind → Atom → Array
atom_array k x = record { kind = k; shape = []; atoms = x ∷ [] }

-- the product of the axes: how many atoms a noun of that shape has
abbrev pub product : List ℕ → ℕ
product [] = 1
product (n ∷ s) = n * product s

-- the number of items
abbrev pub tally : List ℕ → ℕ
tally [] = 1
tally (n ∷ s) = n

-- the number of atoms, with the weights of the nouns in boxes
abbrev mutual
  pub atom_weight : Atom → ℕ
  atom_weight (number z) = 1
  atom_weight (byte b) = 1
  atom_weight (nested k s r) = 1 + row_weight r

  pub row_weight : Row → ℕ
  row_weight row_end = 0
  row_weight (row_more x rest) = atom_weight x + row_weight rest

abbrev pub weight : Array → ℕ
weight a = sum_by atom_weight a.atoms

-- the box level: 0 without boxes, else one more than the greatest level in a box
abbrev mutual
  pub atom_level : Atom → ℕ
  atom_level (number z) = 0
  atom_level (byte b) = 0
  atom_level (nested k s r) = row_level r + 1

  pub row_level : Row → ℕ
  row_level row_end = 0
  row_level (row_more x rest) = max (atom_level x) (row_level rest)

abbrev pub greatest_level : List Atom → ℕ
greatest_level [] = 0
greatest_level (x ∷ rest) = max (atom_level x) (greatest_level rest)

abbrev pub level : Array → ℕ
level a = greatest_level a.atoms

-- what fills a noun of each kind: 0, a blank, and a box with an empty list of numbers
abbrev pub fill_atom : Kind → Atom
fill_atom Number = number (pos 0)
fill_atom Character = byte 32
fill_atom Boxed = boxed (record { kind = Number; shape = 0 ∷ []; atoms = [] })

abbrev pub IsOfKind : Kind → Atom → Type 0
IsOfKind Number (number z) = Unit {0}
IsOfKind Character (byte b) = Unit {0}
IsOfKind Boxed (nested k s r) = Unit {0}
IsOfKind _ _ = ⊥

-- the limits of a noun
pub record IsWithin (shape : List ℕ) (atoms : List Atom) : Type 0 where
  pub rank : length shape ≤ 32
  pub axes : All (λ n. n ≤ 4194304) shape
  pub light : sum_by atom_weight atoms ≤ 4194304
  pub shallow : greatest_level atoms ≤ 64

-- an array that is a noun
pub record IsNoun (a : Array) : Type 0 where
  pub as_many : length a.atoms ≡ product a.shape
  pub of_kind : All (IsOfKind a.kind) a.atoms
  pub within : IsWithin a.shape a.atoms

-- equal shapes and equal atoms: the kinds of nouns without atoms do not count
abbrev mutual
  pub atom_match : Atom → Atom → Bool
  atom_match (number y) (number z) = int_eq y z
  atom_match (byte a) (byte b) = a == b
  atom_match (nested k s q) (nested l t r) = pointwise ◌==◌ s t && row_match q r
  atom_match _ _ = false

  pub row_match : Row → Row → Bool
  row_match row_end row_end = true
  row_match (row_more x q) (row_more y r) = atom_match x y && row_match q r
  row_match _ _ = false

abbrev pub arrays_match : Array → Array → Bool
arrays_match a b = pointwise ◌==◌ a.shape b.shape && pointwise atom_match a.atoms b.atoms
