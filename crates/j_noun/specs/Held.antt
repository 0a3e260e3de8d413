-- The noun that the code keeps.
use Rattle.std.specs.Prelude.{◌≡◌, ◌≢◌, ℕ, ◌≤◌, ◌<◌, pos, List, [], ◌∷◌, length, map}
use Rattle.std.specs.List.{All, sum_by}
use Rattle.j_definitions.specs.Array.{Array, Atom, number, byte, boxed, weight, level, atom_weight, greatest_level, IsNoun}
use Rattle.j_definitions.specs.declared.Kind.{Kind}
use Rattle.j_definitions.specs.declared.Kind.TheVariants.{Number, Character, Boxed}
use Rattle.j_noun.specs.declared.noun.Held.{Held}
use Rattle.j_noun.specs.declared.noun.Held.TheVariants.{Number as HeldNumber, Character as HeldCharacter, Boxed as HeldBoxed, Text, Shared}
use Rattle.j_noun.specs.declared.noun.Block.{Block}
use Rattle.j_noun.specs.declared.noun.Atoms.{Atoms}
use Rattle.j_noun.specs.declared.noun.Atoms.TheVariants.{Wholes, Bits, Bytes, Boxes}

abbrev pub atoms_kept : Atoms → List Atom
atoms_kept (Wholes v) = map number v.items
atoms_kept (Bits v) = map (λ b. number (pos b)) v.items
atoms_kept (Bytes v) = map byte v.items
atoms_kept (Boxes v) = map boxed v.items

abbrev pub kind_kept : Atoms → Kind
kind_kept (Wholes v) = Number
kind_kept (Bits v) = Number
kind_kept (Bytes v) = Character
kind_kept (Boxes v) = Boxed

-- the noun of a shape and atoms
abbrev pub array_kept : List ℕ → Atoms → Array
array_kept s a = record { kind = kind_kept a; shape = s; atoms = atoms_kept a }

abbrev pub array_held : Held → Array
array_held (HeldNumber n) = record { kind = Number; shape = []; atoms = number n ∷ [] }
array_held (HeldCharacter b) = record { kind = Character; shape = []; atoms = byte b ∷ [] }
array_held (Text t) = record { kind = Character; shape = length t ∷ []; atoms = map byte t }
array_held (HeldBoxed rc) = record { kind = Boxed; shape = []; atoms = boxed rc.value.noun ∷ [] }
array_held (Shared rc) = array_kept rc.value.shape rc.value.atoms

-- a weight within its limit, and a level
pub record IsMeasured (xs : List Atom) (weight level : ℕ) : Type 0 where
  pub weighed : weight ≡ sum_by atom_weight xs
  pub light : weight ≤ 4194304
  pub levelled : level ≡ greatest_level xs

-- a number or a character with no axis, which is kept inline
abbrev pub IsInline : Array → Type 0
IsInline a = (a.shape ≡ []) × (a.kind ≢ Boxed)

-- bits are 0 or 1
abbrev pub AreBits : Atoms → Type 0
AreBits (Bits v) = All (λ b. b < 2) v.items
AreBits _ = Unit {0}

-- these atoms, of a kind, as make takes them
pub record AreAtoms (a : Atoms) (k : Kind) (xs : List Atom) : Type 0 where
  pub kind : kind_kept a ≡ k
  pub atoms : atoms_kept a ≡ xs
  pub bits : AreBits a

pub record IsSoundBlock (b : Block) : Type 0 where
  pub bits : AreBits b.atoms
  pub not_inline : IsInline (array_kept b.shape b.atoms) → ⊥
  pub weighed : b.weight ≡ weight (array_kept b.shape b.atoms)
  pub levelled : b.level ≡ level (array_kept b.shape b.atoms)

abbrev pub IsStored : Held → Type 0
IsStored (HeldNumber n) = Unit {0}
IsStored (HeldCharacter b) = Unit {0}
IsStored (Text t) = Unit {0}
IsStored (HeldBoxed rc) = IsMeasured (boxed rc.value.noun ∷ []) rc.value.weight rc.value.level
IsStored (Shared rc) = IsSoundBlock rc.value

pub record IsSound (h : Held) : Type 0 where
  pub noun : IsNoun (array_held h)
  pub stored : IsStored h
