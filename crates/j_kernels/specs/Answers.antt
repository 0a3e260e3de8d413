-- What functions inside this crate answer.
use Rattle.std.specs.Prelude.{◌≡◌, ℕ, ℤ, ◌≤◌, Bool, List, length, Result, Ok, Err}
use Rattle.std.specs.List.{All}
use Rattle.j_definitions.specs.Array.{Atom, number, product, atom_match}
use Rattle.j_definitions.specs.declared.Fault.{Fault}
use Rattle.j_noun.specs.declared.view.View.{View}
use Rattle.j_noun.specs.declared.view.View.TheVariants.{Bytes, Boxes}
use Rattle.j_kernels.specs.Scalars.{of_truths, truth}

abbrev pub number_or_fault : Result ℤ Fault → Result Atom Fault
number_or_fault (Ok z) = Ok (number z)
number_or_fault (Err e) = Err e

-- the truth values of two numbers, by which each verb of truth values goes
abbrev pub AreTruths : ℤ → ℤ → Result (Bool × Bool) Fault → Type 0
AreTruths x y (Ok p) = (f : Bool → Bool → Bool) → of_truths f x y ≡ Ok (truth (f p.0 p.1))
AreTruths x y (Err e) = (f : Bool → Bool → Bool) → of_truths f x y ≡ Err e

-- a shape within its limits, of n atoms
pub record IsFrame (s : List ℕ) (n : ℕ) : Type 0 where
  pub as_many : n ≡ product s
  pub few : n ≤ 4194304
  pub rank : length s ≤ 32
  pub axes : All (λ n. n ≤ 4194304) s

-- one of the views is not of numbers
abbrev pub AreNotNumbers : View → View → Type 0
AreNotNumbers (Bytes v) _ = Unit {0}
AreNotNumbers (Boxes v) _ = Unit {0}
AreNotNumbers _ (Bytes w) = Unit {0}
AreNotNumbers _ (Boxes w) = Unit {0}
AreNotNumbers _ _ = ⊥

-- 1 or 0, by what is said of whether two atoms match
abbrev pub said_of_match : (Bool → Bool) → Atom → Atom → Result Atom Fault
said_of_match said x y = Ok (truth (said (atom_match x y)))
