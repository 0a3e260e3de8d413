-- How the results of cells become one noun.
use Rattle.std.specs.Prelude.{ℕ, ◌-◌, ◌*◌, max, Bool, true, false, nat_eq, cond, List, [], ◌∷◌, ◌++◌, length, take, drop, replicate, Option, Some, None, Result, Err}
use Rattle.std.specs.List.{fold, flat_map, list_all, range_with_len}
use Rattle.j_definitions.specs.Array.{Array, Atom, product, fill_atom}
use Rattle.j_definitions.specs.declared.Kind.{Kind}
use Rattle.j_definitions.specs.declared.Kind.TheVariants.{Number, Character, Boxed}
use Rattle.j_definitions.specs.declared.Fault.{Fault}
use Rattle.j_definitions.specs.declared.Fault.TheVariants.{Domain}
use Rattle.j_definitions.specs.Limits.{limited}

-- brought to n axes by leading axes of length 1
abbrev pub with_rank : ℕ → List ℕ → List ℕ
with_rank n s = replicate (n - length s) 1 ++ s

abbrev pub greatest_rank : List Array → ℕ
greatest_rank results = fold (λ n a. max n (length a.shape)) 0 results

-- the greater length of each axis
abbrev pub greater_axes : List ℕ → List ℕ → List ℕ
greater_axes (m ∷ s) (n ∷ t) = max m n ∷ greater_axes s t
greater_axes _ _ = []

-- the greatest length of each of n axes
abbrev pub greatest_axes : ℕ → List Array → List ℕ
greatest_axes n results = fold (λ s a. greater_axes s (with_rank n a.shape)) (replicate n 0) results

-- the shape that all results are brought to
abbrev pub common_shape : List Array → List ℕ
common_shape results = greatest_axes (greatest_rank results) results

-- the elements of shape t, brought to shape s: each item is, and items of fills follow
abbrev pub padded : {X : Type 0} → X → List ℕ → List ℕ → List X → List X
padded z (m ∷ t) (n ∷ s) xs = flat_map (λ k. padded z t s (take (product t) (drop (k * product t) xs))) (range_with_len 0 m) ++ replicate ((n - m) * product s) z
padded z _ _ xs = xs

-- the atoms of results that are brought to shape s
abbrev pub atoms_of_all : Kind → List ℕ → List Array → List Atom
atoms_of_all k s results = flat_map (λ a. padded (fill_atom k) (with_rank (length s) a.shape) s a.atoms) results

abbrev pub same_kind : Kind → Kind → Bool
same_kind Number Number = true
same_kind Character Character = true
same_kind Boxed Boxed = true
same_kind _ _ = false

-- the kinds of the results that have atoms
abbrev pub kinds_with_atoms : List Array → List Kind
kinds_with_atoms [] = []
kinds_with_atoms (a ∷ rest) = cond (nat_eq (length a.atoms) 0) (kinds_with_atoms rest) (a.kind ∷ kinds_with_atoms rest)

abbrev pub one_kind : List Kind → List Array → Option Kind
one_kind (k ∷ rest) results = cond (list_all (same_kind k) rest) (Some k) None
one_kind [] (a ∷ rest) = Some a.kind
one_kind [] [] = None

-- the kind of all results that have atoms, and where none has any that of the first
abbrev pub joined_kind : List Array → Option Kind
joined_kind results = one_kind (kinds_with_atoms results) results

-- the results of a frame as one noun; a frame that holds a 0 has no atoms
abbrev pub assembled : List ℕ → List Array → Kind → Array
assembled f results k =
    record { kind = k; shape = f ++ common_shape results; atoms = atoms_of_all k (common_shape results) (take (product f) results) }

abbrev pub assembled_as : List ℕ → List Array → Option Kind → Result Array Fault
assembled_as f results None = Err Domain
assembled_as f results (Some k) = limited (assembled f results k)

-- the noun of the results of a frame, or `domain error` where their kinds don't join, or `limit error`
abbrev pub assemble : List ℕ → List Array → Result Array Fault
assemble f results = assembled_as f results (joined_kind results)
