-- The numbers that atoms are, as arguments that have to be numbers give them.
use Rattle.std.specs.Prelude.{◌≡◌, ℕ, ℤ, ◌-◌, pos, negsuc, min, nat_lt, cond, unsigned_abs, List, map, sum, Result, Ok, Err}
use Prim.Native.Nat.{suc}
use Rattle.j_definitions.specs.Array.{Atom, number, byte, nested}
use Rattle.j_definitions.specs.Cells.{in_order}
use Rattle.j_definitions.specs.declared.Fault.{Fault}
use Rattle.j_definitions.specs.declared.Fault.TheVariants.{Domain, Index}

abbrev pub number_in : Atom → Result ℤ Fault
number_in (number z) = Ok z
number_in (byte b) = Err Domain
number_in (nested k s r) = Err Domain

-- the numbers, or `domain error` where an atom is none
abbrev pub whole_numbers : List Atom → Result (List ℤ) Fault
whole_numbers atoms = in_order (map number_in atoms)

-- a number that isn't negative
abbrev pub count_of : ℤ → Result ℕ Fault
count_of (pos n) = Ok n
count_of (negsuc n) = Err Domain

-- the numbers, or `domain error` where one is negative
abbrev pub counts_of : List ℤ → Result (List ℕ) Fault
counts_of zs = in_order (map count_of zs)

abbrev pub magnitudes : List ℤ → List ℕ
magnitudes zs = map unsigned_abs zs

-- these numbers are counts, whose sum is kept up to the greatest machine number
pub record IsTotal (zs : List ℤ) (total : ℕ) : Type 0 where
  pub counted : counts_of zs ≡ Ok (magnitudes zs)
  pub summed : total ≡ min (sum (magnitudes zs)) 18446744073709551615

-- the place that an index counts from the start, or from the end where it is negative
abbrev pub index_in : ℕ → ℤ → Result ℕ Fault
index_in n (pos k) = cond (nat_lt k n) (Ok k) (Err Index)
index_in n (negsuc k) = cond (nat_lt k n) (Ok (n - suc k)) (Err Index)

-- the places of indices, or `index error`
abbrev pub indices_in : ℕ → List ℤ → Result (List ℕ) Fault
indices_in n zs = in_order (map (index_in n) zs)

-- what follows a value, where there is no fault
abbrev pub and_then : {A B : Type 0} → Result A Fault → (A → Result B Fault) → Result B Fault
and_then (Ok a) f = f a
and_then (Err e) f = Err e
