-- Number words: what their parts are, and what each gives.
use Rattle.std.specs.Prelude.{ℕ, ℤ, pos, neg_ℤ, ◌*◌, ◌^◌, ◌==◌, ◌&&◌, ◌||◌, not, Bool, true, false, cond, nat_le, List, [], ◌∷◌, length, take, drop, filter, map, Option, Some, None, Result, Ok, Err}
use Rattle.std.specs.List.{slice_split, position_or_len, list_all}
use Rattle.std.specs.Char.{is_ascii_digit, is_ascii_lowercase}
use Rattle.std.specs.Str.{all_ascii_digits}
use Rattle.std.specs.Str.Parse.{digits_value}
use Rattle.j_definitions.specs.Bytes.{is_blank}
use Rattle.j_definitions.specs.Cells.{in_order}
use Rattle.j_definitions.specs.Range.{in_range}
use Rattle.j_numbers.specs.declared.fault.NumberFault.{NumberFault}
use Rattle.j_numbers.specs.declared.fault.NumberFault.TheVariants.{IllFormed, Overflow, Limit}
use Rattle.j_noun.specs.declared.ranks.RankPart.{RankPart}
use Rattle.j_noun.specs.declared.ranks.RankPart.TheVariants.{Number, Infinite}

abbrev pub is_empty : List ℕ → Bool
is_empty [] = true
is_empty (b ∷ bs) = false

-- what the blanks of a text part
abbrev pub parts : List ℕ → List (List ℕ)
parts text = filter (λ part. not (is_empty part)) (slice_split is_blank text)

-- digits, at least one
abbrev pub are_digits : List ℕ → Bool
are_digits ds = not (is_empty ds) && all_ascii_digits ds

-- digits and small letters, at least one
abbrev pub is_base_digit : ℕ → Bool
is_base_digit b = is_ascii_digit b || is_ascii_lowercase b

abbrev pub are_base_digits : List ℕ → Bool
are_base_digits ds = not (is_empty ds) && list_all is_base_digit ds

-- whether `_` stands before the digits, and the digits
abbrev pub is_minus : List ℕ → Bool
is_minus [] = false
is_minus (b ∷ bs) = b == 95

abbrev pub unsigned : List ℕ → List ℕ
unsigned [] = []
unsigned (b ∷ bs) = cond (b == 95) bs (b ∷ bs)

abbrev pub signed : Bool → ℕ → ℤ
signed minus n = cond minus (neg_ℤ (pos n)) (pos n)

-- digits, with `_` before them for minus
abbrev pub plain : List ℕ → Option ℤ
plain numeral = cond (are_digits (unsigned numeral)) (Some (signed (is_minus numeral) (digits_value 10 (unsigned numeral)))) None

-- that form times a power of ten
abbrev pub scaled : List ℕ → List ℕ → Option ℤ
scaled numeral exponent =
    cond (are_digits (unsigned numeral) && are_digits exponent)
    (Some (signed (is_minus numeral) (digits_value 10 (unsigned numeral) * 10 ^ digits_value 10 exponent)))
    None

-- digits and letters in a base
abbrev pub based : List ℕ → List ℕ → Option ℤ
based base digits =
    cond (are_digits base && are_base_digits digits) (Some (pos (digits_value (digits_value 10 base) digits))) None

-- `e` or `b`
abbrev pub is_mark : ℕ → Bool
is_mark b = (b == 101) || (b == 98)

-- the number of what stands before the first mark, and from it on
abbrev pub split_number : List ℕ → List ℕ → Option ℤ
split_number front [] = plain front
split_number front (mark ∷ digits) = cond (mark == 101) (scaled front digits) (based front digits)

-- the number of a part, where it is well-formed
abbrev pub number_of : List ℕ → Option ℤ
number_of part = split_number (take (position_or_len is_mark part) part) (drop (position_or_len is_mark part) part)

abbrev pub ranged : Option ℤ → Result RankPart NumberFault
ranged None = Err IllFormed
ranged (Some z) = cond (in_range z) (Ok (Number z)) (Err Overflow)

-- `_` alone
abbrev pub is_infinity : List ℕ → Bool
is_infinity part = is_minus part && is_empty (unsigned part)

-- what a part gives, where `infinite` says that `_` alone is infinite
abbrev pub part_value : Bool → List ℕ → Result RankPart NumberFault
part_value infinite part = cond (infinite && is_infinity part) (Ok Infinite) (ranged (number_of part))

-- most parts of a number word
abbrev pub most_parts : ℕ
most_parts = 4194304

abbrev pub within_limit : Result (List RankPart) NumberFault → Result (List RankPart) NumberFault
within_limit (Ok xs) = cond (nat_le (length xs) most_parts) (Ok xs) (Err Limit)
within_limit (Err f) = Err f

-- The values of the parts, or the fault of the leftmost faulty part, or `limit error` for too many parts.
abbrev pub literal : List ℕ → Bool → Result (List RankPart) NumberFault
literal text infinite = within_limit (in_order (map (part_value infinite) (parts text)))
