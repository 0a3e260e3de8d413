-- Number words that are read in part.
use Rattle.std.specs.Prelude.{ℕ, Bool, true, false, List, ◌++◌, map, Result, Ok, Err}
use Rattle.j_definitions.specs.Array.{Array}
use Rattle.j_definitions.specs.Cells.{in_order}
use Rattle.j_numbers.specs.declared.fault.NumberFault.{NumberFault}
use Rattle.j_numbers.specs.declared.fault.NumberFault.TheVariants.{Limit}
use Rattle.j_numbers.specs.declared.literal.Literal.{Literal}
use Rattle.j_noun.specs.declared.ranks.RankPart.{RankPart}
use Rattle.j_numbers.specs.Numbers.{parts, part_value, within_limit}
use Rattle.j_numbers.specs.Literals.{literal_of, noun_of}

abbrev pub values : Bool → List ℕ → List (Result RankPart NumberFault)
values infinite text = map (part_value infinite) (parts text)

-- the results xs before those of r
abbrev pub after : {C E : Type 0} → List C → Result (List C) E → Result (List C) E
after xs (Ok ys) = Ok (xs ++ ys)
after xs (Err e) = Err e

-- the values of a number word of which xs were read, and the text is left
abbrev pub values_after : Bool → List RankPart → List ℕ → Result (List RankPart) NumberFault
values_after infinite xs text = within_limit (after xs (in_order (values infinite text)))

-- what it gives
abbrev pub read_after : List RankPart → List ℕ → Result Literal NumberFault
read_after xs text = literal_of (values_after true xs text)

-- what it gives where no part may be infinite
abbrev pub noun_after : List RankPart → List ℕ → Result Array NumberFault
noun_after xs text = noun_of (values_after false xs text)

-- the first fault, or `limit error`
abbrev pub limit_or_fault : Result (List RankPart) NumberFault → NumberFault
limit_or_fault (Ok ps) = Limit
limit_or_fault (Err f) = f
