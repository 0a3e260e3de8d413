-- The digits of numbers by bases.
use Rattle.std.specs.Prelude.{ℕ, ℤ, pos, ◌-◌, max, nat_eq, cond, List, [], ◌∷◌, ◌++◌, length, map, reverse, replicate, Result, Ok, Err}
use Rattle.std.specs.List.{fold, flat_map, list_all}
use Rattle.std.specs.Int.{w64, leading_zeros}
use Rattle.std.specs.Int.RustNames.{unsigned_abs}
use Rattle.j_definitions.specs.Array.{Array, number}
use Rattle.j_definitions.specs.Limits.{limited}
use Rattle.j_definitions.specs.Range.{in_range}
use Rattle.j_definitions.specs.declared.Kind.{Kind}
use Rattle.j_definitions.specs.declared.Kind.TheVariants.{Number, Character, Boxed}
use Rattle.j_definitions.specs.declared.Fault.{Fault}
use Rattle.j_definitions.specs.declared.Fault.TheVariants.{Overflow}
use Rattle.j_kernels.specs.Scalars.{is_zero, residue, floor_quotient}
use Rattle.j_insert.specs.Bases.{and_then, numbers_of, first_number}

-- what is left of r behind its last digit: x times this is r less the digit; 0 where x is 0
abbrev pub left_by : ℤ → ℤ → ℤ
left_by x r = cond (is_zero x) (pos 0) (floor_quotient r x)

-- the digits of r from the last, by bases from the last
abbrev pub digits_from_last : List ℤ → ℤ → List ℤ
digits_from_last [] r = []
digits_from_last (x ∷ rest) r = residue x r ∷ digits_from_last rest (left_by x r)

abbrev pub digits_backward : List ℤ → ℤ → List ℤ
digits_backward xs y = digits_from_last (reverse xs) y

-- the digits from the first, or `overflow error` where one is out of range
abbrev pub digits : List ℤ → ℤ → Result (List ℤ) Fault
digits xs y = cond (list_all in_range (digits_backward xs y)) (Ok (reverse (digits_backward xs y))) (Err Overflow)

abbrev pub numbers : List ℕ → List ℤ → Array
numbers s zs = record { kind = Number; shape = s; atoms = map number zs }

-- The dyad of `#:`: the digits of the number y by the bases x. An atom x gives one digit, an atom.
abbrev pub antibase : Array → Array → Result Array Fault
antibase x y = and_then (numbers_of x) (λ xs. and_then (numbers_of y) (λ ys. and_then (digits xs (first_number ys)) (λ zs. limited (numbers x.shape zs))))

-- how many binary digits the magnitude of a number has; 1 for 0
abbrev pub binary_length : ℤ → ℕ
binary_length z = max 1 (64 - leading_zeros w64 (unsigned_abs z))

-- the most of any, and 0 where there are no numbers
abbrev pub most_digits : List ℤ → ℕ
most_digits zs = fold (λ d z. max d (binary_length z)) 0 zs

-- the last d binary digits, from the first
abbrev pub binary : ℕ → ℤ → List ℤ
binary d z = reverse (digits_backward (replicate d (pos 2)) z)

-- each number by itself, in the frame of all
abbrev pub binaries : List ℕ → List ℤ → Result Array Fault
binaries s zs = limited (numbers (s ++ most_digits zs ∷ []) (flat_map (binary (most_digits zs)) zs))

-- the shape of what a fill gives by no bases: no digits of 0; a blank and a box are `domain error`, for which the number 0 stands
abbrev pub fill_digits : Kind → List ℕ
fill_digits Number = 0 ∷ []
fill_digits Character = []
fill_digits Boxed = []

-- The monad of `#:`, which is `(d$2) #: y` with the most binary digits d.
abbrev pub antibase_two : Array → Result Array Fault
antibase_two y = cond (nat_eq (length y.atoms) 0) (limited (numbers (y.shape ++ fill_digits y.kind) [])) (and_then (numbers_of y) (binaries y.shape))
