-- What the scalar verbs mean: on one atom or two, and on whole nouns.
use Rattle.std.specs.Prelude.{ℕ, ℤ, ◌%◌, ◌==◌, max, pos, negsuc, neg_ℤ, ◌+ℤ◌, ◌-ℤ◌, ◌*ℤ◌, Bool, true, false, ◌&&◌, ◌||◌, not, int_lt, cond, List, map, Option, Some, None, Result, Ok, Err}
use Prim.Native.Nat.{zero, suc}
use Rattle.std.specs.Int.{int_signum, int_div_euclid, int_pow}
use Rattle.std.specs.Int.RustNames.{int_div, int_rem, unsigned_abs}
use Rattle.std.specs.Ordering.{int_eq}
use Rattle.j_definitions.specs.Array.{Array, Atom, number, byte, nested, atom_match}
use Rattle.j_definitions.specs.Cells.{Agreed, agree, pairs, in_order, atom_at}
use Rattle.j_definitions.specs.Range.{in_range}
use Rattle.j_definitions.specs.declared.Kind.TheVariants.{Number}
use Rattle.j_definitions.specs.declared.Fault.{Fault}
use Rattle.j_definitions.specs.declared.Fault.TheVariants.{Domain, Length, Nonce, Overflow, Quotient}
use Rattle.j_kernels.specs.declared.scalar.Scalar.{Scalar}
use Rattle.j_kernels.specs.declared.scalar.Scalar.TheVariants.{Plus, Minus, Times, Divide, Power, Residue, LesserOf, GreaterOf, LessEqual, GreaterEqual, Double, Square, Or, And, Not, Halve, Less, Greater, Equal, NotEqual}

-- a number, or `overflow error` out of range
abbrev pub whole : ℤ → Result Atom Fault
whole z = cond (in_range z) (Ok (number z)) (Err Overflow)

-- 1 or 0
abbrev pub truth : Bool → Atom
truth b = number (pos (cond b 1 0))

-- a verb of one number, and of two
abbrev pub of_number : (ℤ → Result Atom Fault) → Atom → Result Atom Fault
of_number f (number y) = f y
of_number f (byte b) = Err Domain
of_number f (nested k s r) = Err Domain

abbrev pub of_numbers : (ℤ → ℤ → Result Atom Fault) → Atom → Atom → Result Atom Fault
of_numbers f (number x) (number y) = f x y
of_numbers f _ _ = Err Domain

abbrev pub is_zero : ℤ → Bool
is_zero z = int_eq z (pos 0)

-- 1 or _1
abbrev pub is_unit : ℤ → Bool
is_unit z = int_eq z (pos 1) || int_eq z (negsuc 0)

-- 1 divided by y
abbrev pub reciprocal : ℤ → Result Atom Fault
reciprocal y = cond (is_unit y) (Ok (number y)) (Err Quotient)

-- x divided by y, where that is whole; 0 divided by 0 is 0
abbrev pub quotient : ℤ → ℤ → Result Atom Fault
quotient x y =
    cond (is_zero y)
    (cond (is_zero x) (Ok (number (pos 0))) (Err Quotient))
    (cond (is_zero (int_rem x y)) (whole (int_div x y)) (Err Quotient))

-- x to the power y; a negative power is whole for 1 and _1 alone, where it is that of the opposite exponent
abbrev pub power : ℤ → ℤ → Result Atom Fault
power x y = cond (int_lt y (pos 0) && not (is_unit x)) (Err Quotient) (whole (int_pow x (unsigned_abs y)))

-- the greatest whole number that is at most y divided by x
abbrev pub floor_quotient : ℤ → ℤ → ℤ
floor_quotient y (pos n) = int_div_euclid y (pos n)
floor_quotient y (negsuc n) = int_div_euclid (neg_ℤ y) (pos (suc n))

-- what is left of y after all multiples of x
abbrev pub residue : ℤ → ℤ → ℤ
residue x y = cond (is_zero x) y (y -ℤ (x *ℤ floor_quotient y x))

abbrev pub lesser : ℤ → ℤ → ℤ
lesser x y = cond (int_lt x y) x y

abbrev pub greater : ℤ → ℤ → ℤ
greater x y = cond (int_lt x y) y x

-- the greatest number up to n that passes a test, or 0
abbrev pub greatest : (ℕ → Bool) → ℕ → ℕ
greatest p zero = 0
greatest p (suc n) = cond (p (suc n)) (suc n) (greatest p n)

-- the greatest number that divides both; 0 for 0 and 0
abbrev pub common_divisor : ℕ → ℕ → ℕ
common_divisor m n = greatest (λ d. (m % d == 0) && (n % d == 0)) (max m n)

-- the product divided by the greatest common divisor; 0 where one of the two is 0
abbrev pub common_multiple : ℤ → ℤ → ℤ
common_multiple x y = cond (is_zero x || is_zero y) (pos 0) (int_div (x *ℤ y) (pos (common_divisor (unsigned_abs x) (unsigned_abs y))))

-- a verb of truth values, 0 and 1
abbrev pub of_truths : (Bool → Bool → Bool) → ℤ → ℤ → Result Atom Fault
of_truths f x y =
    cond ((is_zero x || int_eq x (pos 1)) && (is_zero y || int_eq y (pos 1)))
    (Ok (truth (f (int_eq x (pos 1)) (int_eq y (pos 1)))))
    (Err Domain)

-- y divided by 2, where that is whole
abbrev pub half : ℤ → Result Atom Fault
half y = cond (is_zero (int_rem y (pos 2))) (Ok (number (int_div y (pos 2)))) (Err Quotient)

-- the verbs on one number; where a verb has no scalar monad it is `nonce error`
abbrev pub monad_on : Scalar → ℤ → Result Atom Fault
monad_on Plus = λ y. Ok (number y)
monad_on Minus = λ y. whole (neg_ℤ y)
monad_on Times = λ y. Ok (number (int_signum y))
monad_on Divide = reciprocal
monad_on Power = λ y. Err Nonce
monad_on Residue = λ y. whole (pos (unsigned_abs y))
monad_on LesserOf = λ y. Ok (number y)
monad_on GreaterOf = λ y. Ok (number y)
monad_on LessEqual = λ y. whole (y -ℤ pos 1)
monad_on GreaterEqual = λ y. whole (y +ℤ pos 1)
monad_on Double = λ y. whole (pos 2 *ℤ y)
monad_on Square = λ y. whole (y *ℤ y)
monad_on Or = λ y. Err Nonce
monad_on And = λ y. Err Nonce
monad_on Not = λ y. whole (pos 1 -ℤ y)
monad_on Halve = half
monad_on Less = λ y. Err Nonce
monad_on Greater = λ y. Err Nonce
monad_on Equal = λ y. Err Nonce
monad_on NotEqual = λ y. Err Nonce

-- the verbs on two numbers; where a verb has no scalar dyad it is `nonce error`
abbrev pub dyad_on : Scalar → ℤ → ℤ → Result Atom Fault
dyad_on Plus = λ x y. whole (x +ℤ y)
dyad_on Minus = λ x y. whole (x -ℤ y)
dyad_on Times = λ x y. whole (x *ℤ y)
dyad_on Divide = quotient
dyad_on Power = power
dyad_on Residue = λ x y. Ok (number (residue x y))
dyad_on LesserOf = λ x y. Ok (number (lesser x y))
dyad_on GreaterOf = λ x y. Ok (number (greater x y))
dyad_on LessEqual = λ x y. Ok (truth (not (int_lt y x)))
dyad_on GreaterEqual = λ x y. Ok (truth (not (int_lt x y)))
dyad_on Double = of_truths (λ a b. not (a || b))
dyad_on Square = of_truths (λ a b. not (a && b))
dyad_on Or = λ x y. whole (pos (common_divisor (unsigned_abs x) (unsigned_abs y)))
dyad_on And = λ x y. whole (common_multiple x y)
dyad_on Not = λ x y. Err Nonce
dyad_on Halve = λ x y. Err Nonce
dyad_on Less = λ x y. Ok (truth (int_lt x y))
dyad_on Greater = λ x y. Ok (truth (int_lt y x))
dyad_on Equal = λ x y. Ok (truth (int_eq x y))
dyad_on NotEqual = λ x y. Ok (truth (not (int_eq x y)))

-- whether a verb has a scalar monad, and a scalar dyad
abbrev pub has_monad : Scalar → Bool
has_monad Power = false
has_monad Or = false
has_monad And = false
has_monad Less = false
has_monad Greater = false
has_monad Equal = false
has_monad NotEqual = false
has_monad _ = true

abbrev pub has_dyad : Scalar → Bool
has_dyad Not = false
has_dyad Halve = false
has_dyad _ = true

-- on one atom, and on two: numbers are required but for `=` and `~:`, by which boxes are compared by match
abbrev pub monad_of : Scalar → Atom → Result Atom Fault
monad_of v = of_number (monad_on v)

abbrev pub dyad_of : Scalar → Atom → Atom → Result Atom Fault
dyad_of Equal = λ x y. Ok (truth (atom_match x y))
dyad_of NotEqual = λ x y. Ok (truth (not (atom_match x y)))
dyad_of v = of_numbers (dyad_on v)

-- the noun of numbers, where they are all there
abbrev pub numbers_of : List ℕ → Result (List Atom) Fault → Result Array Fault
numbers_of s (Ok zs) = Ok (record { kind = Number; shape = s; atoms = zs })
numbers_of s (Err e) = Err e

-- A scalar monad of a noun: each atom in order, up to the first fault.
abbrev pub scalar_monad : (Atom → Result Atom Fault) → Array → Result Array Fault
scalar_monad f y = numbers_of y.shape (in_order (map f y.atoms))

-- what the pairs give
abbrev pub answers : (Atom → Atom → Result Atom Fault) → Agreed → List Atom → List Atom → List (Result Atom Fault)
answers f a xs ys = map (λ p. f (atom_at xs p.0) (atom_at ys p.1)) (pairs a)

abbrev pub agreed_dyad : (Atom → Atom → Result Atom Fault) → Option Agreed → List Atom → List Atom → Result Array Fault
agreed_dyad f None xs ys = Err Length
agreed_dyad f (Some a) xs ys = numbers_of a.frame (in_order (answers f a xs ys))

-- A scalar dyad of two nouns: each pair of atoms in the order of the longer frame, up to the first fault; `length error` where no frame is a prefix of the other. The result of a frame that holds a 0 is of numbers.
abbrev pub scalar_dyad : (Atom → Atom → Result Atom Fault) → Array → Array → Result Array Fault
scalar_dyad f x y = agreed_dyad f (agree x.shape y.shape) x.atoms y.atoms
