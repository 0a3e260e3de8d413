-- Which cells of two nouns meet, and what it is to go through them in order.
use Rattle.std.specs.Prelude.{ℕ, ◌/◌, pos, Bool, nat_eq, cond, List, [], ◌∷◌, length, drop, map, Option, Some, None, Result, Ok, Err}
use Rattle.std.specs.List.{range_with_len, starts_with}
use lib.ListN.{get_or}
use Rattle.j_definitions.specs.Array.{Atom, number, product}

-- the longer of two frames, and how many pairs in a row have one left cell, and one right cell
pub record Agreed : Type 0 where
  pub frame : List ℕ
  pub left : ℕ
  pub right : ℕ

-- the frame t has the frame s as a prefix
abbrev pub is_prefix : List ℕ → List ℕ → Bool
is_prefix s t = starts_with nat_eq t s

-- frames agree where one is a prefix of the other
abbrev pub agree : List ℕ → List ℕ → Option Agreed
agree s t =
    cond (is_prefix s t) (Some (record { frame = t; left = product (drop (length s) t); right = 1 }))
    (cond (is_prefix t s) (Some (record { frame = s; left = 1; right = product (drop (length t) s) })) None)

-- the pairs of cell numbers, in the order of the frame
abbrev pub pairs : Agreed → List (ℕ × ℕ)
pairs a = map (λ k. (k / a.left, k / a.right)) (range_with_len 0 (product a.frame))

abbrev pub atom_at : List Atom → ℕ → Atom
atom_at xs k = get_or xs k (number (pos 0))

abbrev pub with_first : {C E : Type 0} → C → Result (List C) E → Result (List C) E
with_first z (Ok zs) = Ok (z ∷ zs)
with_first z (Err e) = Err e

-- all the results in order, or the first fault
abbrev pub in_order : {C E : Type 0} → List (Result C E) → Result (List C) E
in_order [] = Ok []
in_order (Err e ∷ rest) = Err e
in_order (Ok z ∷ rest) = with_first z (in_order rest)
