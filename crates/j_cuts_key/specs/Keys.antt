-- Items by their keys.
use Rattle.std.specs.Prelude.{ℕ, nat_eq, cond, List, map, filter, Result, Ok, Err}
use Rattle.j_definitions.specs.Array.{Array, tally, arrays_match}
use Rattle.j_definitions.specs.declared.Fault.{Fault}
use Rattle.j_definitions.specs.declared.Fault.TheVariants.{Length}
use Rattle.j_search.specs.Matching.{item_of, firsts}
use Rattle.j_scans.specs.Pieced.{Pieced, places, pieces_at}

-- the places at which x's item matches its item i
abbrev pub key_places : Array → ℕ → List ℕ
key_places x i = filter (λ j. arrays_match (item_of x i) (item_of x j)) (places (tally x.shape))

-- those of each item of the nub
abbrev pub keys : Array → List (List ℕ)
keys x = map (key_places x) (firsts x)

-- the pieces of `x u/. y`
abbrev pub keyed : Array → Array → Result Pieced Fault
keyed x y = cond (nat_eq (tally x.shape) (tally y.shape)) (Ok (pieces_at y (keys x))) (Err Length)
