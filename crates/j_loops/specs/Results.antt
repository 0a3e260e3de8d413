-- Buffers of results.
use Rattle.std.specs.Prelude.{◌≡◌, ℕ, ◌<◌, ◌/◌, List, length, map, Result, Ok, Err}
use Rattle.std.specs.List.{range_with_len}
use lib.ListN.{get_or}
use Rattle.j_definitions.specs.Array.{Atom}
use Rattle.j_definitions.specs.Cells.{in_order, atom_at}
use Rattle.j_definitions.specs.declared.Kind.TheVariants.{Number}
use Rattle.j_definitions.specs.declared.Fault.{Fault}
use Rattle.j_noun.specs.declared.noun.Atoms.{Atoms}
use Rattle.j_noun.specs.declared.refusal.Refusal.{Refusal}
use Rattle.j_noun.specs.declared.refusal.Refusal.TheVariants.{Fault as RefusedFault, NoMemory}
use Rattle.j_noun.specs.Held.{atoms_kept, kind_kept, AreBits}

-- the element z is the result r, and may be kept
pub record IsGiven {Z : Type 0} (g : Z → Atom) (P : Z → Type 0) (r : Result Atom Fault) (z : Z) : Type 0 where
  pub result : r ≡ Ok (g z)
  pub kept : P z

-- the answer to a result: the element or the fault
abbrev pub IsAnswer : {Z : Type 0} → (Z → Atom) → (Z → Type 0) → Result Atom Fault → Result Z Fault → Type 0
IsAnswer g P r (Ok z) = IsGiven g P r z
IsAnswer g P r (Err e) = r ≡ Err e

-- the first n elements of zs are the results of their pairs
pub record AreResults {X Y Z : Type 0} (u : X → Atom) (v : Y → Atom) (g : Z → Atom) (P : Z → Type 0) (f : Atom → Atom → Result Atom Fault)
    (left right : ℕ) (xs : List X) (ys : List Y) (zs : List Z) (n : ℕ) : Type 0 where
  pub each : (k : ℕ) (a : X) (b : Y) (c : Z) → k < n → IsGiven g P (f (u (get_or xs (k / left) a)) (v (get_or ys (k / right) b))) (get_or zs k c)

-- n pairs in order, where `left` in a row have one left atom and `right` one right atom
abbrev pub outcome : (Atom → Atom → Result Atom Fault) → ℕ → ℕ → List Atom → List Atom → ℕ → Result (List Atom) Fault
outcome f left right xs ys n = in_order (map (λ k. f (atom_at xs (k / left)) (atom_at ys (k / right))) (range_with_len 0 n))

-- zs was filled with the results, or the first fault is told
abbrev pub IsWritten : {U X Y Z : Type 0} → (X → Atom) → (Y → Atom) → (Z → Atom) → (Z → Type 0) → (Atom → Atom → Result Atom Fault) → ℕ → ℕ → List X → List Y → List Z → Result U Fault → Type 0
IsWritten u v g P f left right xs ys zs (Ok _) = AreResults u v g P f left right xs ys zs (length zs)
IsWritten u v g P f left right xs ys zs (Err e) = outcome f left right (map u xs) (map v ys) (length zs) ≡ Err e

-- the atoms of all results, or the first fault
abbrev pub IsFilled : Result (List Atom) Fault → Result Atoms Refusal → Type 0
IsFilled r (Ok a) = (r ≡ Ok (atoms_kept a)) × (kind_kept a ≡ Number) × AreBits a
IsFilled r (Err NoMemory) = Unit {0}
IsFilled r (Err (RefusedFault e)) = r ≡ Err e
