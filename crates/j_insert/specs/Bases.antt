-- The number that digits have by bases.
use Rattle.std.specs.Prelude.{ℕ, ℤ, pos, ◌+ℤ◌, ◌*ℤ◌, ◌&&◌, nat_eq, cond, List, [], ◌∷◌, length, map, replicate, zip, Result, Ok, Err}
use lib.ListN.{get_or}
use Rattle.j_definitions.specs.Array.{Array, Atom, number, byte, nested, atom_array}
use Rattle.j_definitions.specs.Cells.{in_order}
use Rattle.j_definitions.specs.Range.{in_range}
use Rattle.j_definitions.specs.declared.Kind.TheVariants.{Number}
use Rattle.j_definitions.specs.declared.Fault.{Fault}
use Rattle.j_definitions.specs.declared.Fault.TheVariants.{Domain, Length, Overflow}

-- what follows of a value, or its fault
abbrev pub and_then : {A B : Type 0} → Result A Fault → (A → Result B Fault) → Result B Fault
and_then (Ok a) f = f a
and_then (Err e) f = Err e

abbrev pub number_of : Atom → Result ℤ Fault
number_of (number z) = Ok z
number_of (byte b) = Err Domain
number_of (nested k s r) = Err Domain

-- the numbers of a noun, or `domain error` where an atom is none
abbrev pub numbers_of : Array → Result (List ℤ) Fault
numbers_of y = in_order (map number_of y.atoms)

-- the number of an atom
abbrev pub first_number : List ℤ → ℤ
first_number zs = get_or zs 0 (pos 0)

-- the numbers of x and of y in pairs, where that of an atom serves all; `length error` where two lists differ in length
abbrev pub beside : List ℕ → List ℕ → List ℤ → List ℤ → Result (List (ℤ × ℤ)) Fault
beside [] t xs ys = Ok (zip (replicate (length ys) (first_number xs)) ys)
beside (m ∷ s) [] xs ys = Ok (zip xs (replicate (length xs) (first_number ys)))
beside (m ∷ s) (n ∷ t) xs ys = cond (nat_eq (length xs) (length ys)) (Ok (zip xs ys)) (Err Length)

-- r times x, and y more: the product and the sum are in range, or it is `overflow error`
abbrev pub step : ℤ → ℤ → ℤ → Result ℤ Fault
step r x y = cond (in_range (r *ℤ x) && in_range (r *ℤ x +ℤ y)) (Ok (r *ℤ x +ℤ y)) (Err Overflow)

-- what r becomes by a step for each pair
abbrev pub stepped : ℤ → List (ℤ × ℤ) → Result ℤ Fault
stepped r [] = Ok r
stepped r (p ∷ rest) = and_then (step r p.0 p.1) (λ s. stepped s rest)

abbrev pub valued : List ℕ → List ℕ → List ℤ → List ℤ → Result ℤ Fault
valued s t xs ys = and_then (beside s t xs ys) (stepped (pos 0))

-- The dyad of `#.`: from 0, a step for each digit of y with its base in x.
abbrev pub base : Array → Array → Result Array Fault
base x y = and_then (numbers_of x) (λ xs. and_then (numbers_of y) (λ ys. and_then (valued x.shape y.shape xs ys) (λ r. Ok (atom_array Number (number r)))))
