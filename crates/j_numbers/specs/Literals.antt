-- What a number word gives: a noun or a list of ranks.
use Rattle.std.specs.Prelude.{◌≡◌, ℕ, ℤ, true, false, List, [], ◌∷◌, length, map, Option, Some, None, Result, Ok, Err}
use Rattle.j_definitions.specs.Array.{Array, Atom, number}
use Rattle.j_definitions.specs.declared.Kind.TheVariants.{Number as NumberKind}
use Rattle.j_numbers.specs.declared.fault.NumberFault.{NumberFault}
use Rattle.j_numbers.specs.declared.fault.NumberFault.TheVariants.{IllFormed, NoMemory}
use Rattle.j_numbers.specs.declared.literal.Literal.{Literal}
use Rattle.j_numbers.specs.declared.literal.Literal.TheVariants.{Noun, Ranks}
use Rattle.j_noun.specs.declared.ranks.RankPart.{RankPart}
use Rattle.j_noun.specs.declared.ranks.RankPart.TheVariants.{Number, Infinite}
use Rattle.j_numbers.specs.Numbers.{literal}

-- one number is an atom, several are a list
abbrev pub number_list : List Atom → Array
number_list (x ∷ []) = record { kind = NumberKind; shape = []; atoms = x ∷ [] }
number_list xs = record { kind = NumberKind; shape = length xs ∷ []; atoms = xs }

abbrev pub with_number : ℤ → Option (List ℤ) → Option (List ℤ)
with_number z None = None
with_number z (Some zs) = Some (z ∷ zs)

-- the numbers of parts, where none is infinite
abbrev pub finite : List RankPart → Option (List ℤ)
finite [] = Some []
finite (Number z ∷ ps) = with_number z (finite ps)
finite (Infinite ∷ ps) = None

abbrev pub noun_or_ranks : List RankPart → Option (List ℤ) → Literal
noun_or_ranks ps (Some zs) = Noun (number_list (map number zs))
noun_or_ranks ps None = Ranks ps

abbrev pub literal_of : Result (List RankPart) NumberFault → Result Literal NumberFault
literal_of (Ok ps) = Ok (noun_or_ranks ps (finite ps))
literal_of (Err f) = Err f

-- The noun of a number word, or its ranks where a part is infinite, or its fault.
abbrev pub read : List ℕ → Result Literal NumberFault
read text = literal_of (literal text true)

abbrev pub noun_or_fault : Option (List ℤ) → Result Array NumberFault
noun_or_fault (Some zs) = Ok (number_list (map number zs))
noun_or_fault None = Err IllFormed

abbrev pub noun_of : Result (List RankPart) NumberFault → Result Array NumberFault
noun_of (Ok ps) = noun_or_fault (finite ps)
noun_of (Err f) = Err f

-- The noun of a number word in which no part may be infinite, or its fault.
abbrev pub noun : List ℕ → Result Array NumberFault
noun text = noun_of (literal text false)

-- the fault of r or, for want of memory, anything
abbrev pub IsFaultOf : {A : Type 0} → Result A NumberFault → NumberFault → Type 0
IsFaultOf r NoMemory = Unit {0}
IsFaultOf r f = r ≡ Err f
