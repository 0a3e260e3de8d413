-- Cuts: pieces between frets.
use Rattle.std.specs.Prelude.{ℕ, pos, negsuc, ◌+◌, ◌-◌, Bool, true, false, nat_eq, cond, List, [], ◌∷◌, length, map, take, drop, filter, replicate, Result, Ok, Err}
use Prim.Native.Nat.{zero, suc}
use Rattle.std.specs.List.{range_with_len}
use lib.ListN.{get_or}
use Rattle.j_definitions.specs.Array.{Array, Atom, number, byte, nested, tally, arrays_match}
use Rattle.j_definitions.specs.Cells.{in_order}
use Rattle.j_definitions.specs.declared.Fault.{Fault}
use Rattle.j_definitions.specs.declared.Fault.TheVariants.{Domain, Length}
use Rattle.j_search.specs.Matching.{item_of}
use Rattle.j_search.specs.declared.cut.CutForm.{CutForm}
use Rattle.j_search.specs.declared.cut.CutForm.TheVariants.{Begin, BeginDrop, End, EndDrop}
use Rattle.j_scans.specs.Pieced.{Pieced, places, pieces_at}

-- the places from one up to another
abbrev pub up_to : ℕ → ℕ → List ℕ
up_to a b = range_with_len a (b - a)

abbrev pub first_or : ℕ → List ℕ → ℕ
first_or t [] = t
first_or t (f ∷ fs) = f

-- of t items with these frets: from each fret up to the next, the last up to the end
abbrev pub begun : ℕ → List ℕ → List (List ℕ)
begun t [] = []
begun t (f ∷ fs) = up_to f (first_or t fs) ∷ begun t fs

-- from a place, and then from after each fret, up to and with the next fret
abbrev pub ended : ℕ → List ℕ → List (List ℕ)
ended a [] = []
ended a (f ∷ fs) = up_to a (f + 1) ∷ ended (f + 1) fs

-- the same pieces without the fret
abbrev pub but_first : List ℕ → List ℕ
but_first ks = drop 1 ks

abbrev pub but_last : List ℕ → List ℕ
but_last ks = take (length ks - 1) ks

abbrev pub cut_places : CutForm → ℕ → List ℕ → List (List ℕ)
cut_places Begin t fs = begun t fs
cut_places BeginDrop t fs = map but_first (begun t fs)
cut_places End t fs = ended 0 fs
cut_places EndDrop t fs = map but_last (ended 0 fs)

-- the pieces of y with these frets
abbrev pub pieces_between : CutForm → List ℕ → Array → Pieced
pieces_between form fs y = pieces_at y (cut_places form (tally y.shape) fs)

-- the place of the item that frets match: the first for 1 and _1, the last for 2 and _2
abbrev pub fret_place : CutForm → ℕ → ℕ
fret_place Begin t = 0
fret_place BeginDrop t = 0
fret_place End t = t - 1
fret_place EndDrop t = t - 1

-- the items that match it
abbrev pub frets : CutForm → Array → List ℕ
frets form y = filter (λ j. arrays_match (item_of y (fret_place form (tally y.shape))) (item_of y j)) (places (tally y.shape))

-- the pieces of `u;.n y`
abbrev pub cuts : CutForm → Array → Pieced
cuts form y = pieces_between form (frets form y) y

-- 1 marks a fret and 0 none; anything else is `domain error`
abbrev pub mark_of : ℕ → Result Bool Fault
mark_of zero = Ok false
mark_of (suc zero) = Ok true
mark_of (suc (suc n)) = Err Domain

abbrev pub mark_in : Atom → Result Bool Fault
mark_in (number (pos n)) = mark_of n
mark_in (number (negsuc n)) = Err Domain
mark_in (byte b) = Err Domain
mark_in (nested k s r) = Err Domain

-- the marks of t items: an atom serves every item, another length is `length error`
abbrev pub marks_served : List ℕ → List Bool → ℕ → Result (List Bool) Fault
marks_served [] bs t = Ok (replicate t (get_or bs 0 false))
marks_served (n ∷ s) bs t = cond (nat_eq n t) (Ok bs) (Err Length)

abbrev pub marked : List Bool → List ℕ
marked bs = filter (λ k. get_or bs k false) (places (length bs))

abbrev pub and_then : {A B : Type 0} → Result A Fault → (A → Result B Fault) → Result B Fault
and_then (Ok a) f = f a
and_then (Err e) f = Err e

-- the frets where x is 1
abbrev pub frets_by : Array → ℕ → Result (List ℕ) Fault
frets_by x t = and_then (in_order (map mark_in x.atoms)) (λ bs. and_then (marks_served x.shape bs t) (λ ms. Ok (marked ms)))

-- the pieces of `x u;.n y`
abbrev pub cuts_by : CutForm → Array → Array → Result Pieced Fault
cuts_by form x y = and_then (frets_by x (tally y.shape)) (λ fs. Ok (pieces_between form fs y))
