-- Prefixes, suffixes, infixes and outfixes.
use Rattle.std.specs.Prelude.{ℕ, ℤ, ◌+◌, ◌-◌, ◌*◌, ◌/◌, pos, negsuc, List, ◌++◌, map, take, drop, Result, Ok, Err}
use Prim.Native.Nat.{suc}
use Rattle.std.specs.List.{range_with_len}
use Rattle.j_definitions.specs.Array.{Array, Atom, number, byte, nested, tally}
use Rattle.j_definitions.specs.Cells.{atom_at}
use Rattle.j_definitions.specs.declared.Fault.{Fault}
use Rattle.j_definitions.specs.declared.Fault.TheVariants.{Domain}
use Rattle.j_scans.specs.Pieced.{Pieced, places, pieces_at}

-- of t items, for k from 1 to t the places of the first k; for k from 0 to t-1 the places from k on
abbrev pub prefix_places : ℕ → List (List ℕ)
prefix_places t = map (λ k. take k (places t)) (range_with_len 1 t)

abbrev pub suffix_places : ℕ → List (List ℕ)
suffix_places t = map (λ k. drop k (places t)) (range_with_len 0 t)

-- for k from 1 to the number of items the first k items
abbrev pub prefixes : Array → Pieced
prefixes y = pieces_at y (prefix_places (tally y.shape))

-- for k from 0 to one less than the number of items the items from k on
abbrev pub suffixes : Array → Pieced
suffixes y = pieces_at y (suffix_places (tally y.shape))

-- a run of items: where it begins, and how many items it has, fewer where they end before
pub record Run : Type 0 where
  pub start : ℕ
  pub count : ℕ

-- what lies within a run, and what is left without it
abbrev pub within : Run → List ℕ → List ℕ
within r ks = take r.count (drop r.start ks)

abbrev pub without : Run → List ℕ → List ℕ
without r ks = take r.start ks ++ drop (r.start + r.count) ks

-- how many runs t items have: of n items at each place where as many are left; of m items one after the other, the last perhaps short, where n is -m
abbrev pub run_count : ℤ → ℕ → ℕ
run_count (pos n) t = 1 + t - n
run_count (negsuc j) t = (t + j) / suc j

-- run k
abbrev pub run_at : ℤ → ℕ → Run
run_at (pos n) k = record { start = k; count = n }
run_at (negsuc j) k = record { start = k * suc j; count = suc j }

abbrev pub runs : ℤ → ℕ → List Run
runs n t = map (run_at n) (range_with_len 0 (run_count n t))

-- the places within each run of t items, and without each run
abbrev pub infix_places : ℤ → ℕ → List (List ℕ)
infix_places n t = map (λ r. within r (places t)) (runs n t)

abbrev pub outfix_places : ℤ → ℕ → List (List ℕ)
outfix_places n t = map (λ r. without r (places t)) (runs n t)

-- y's items within each run, and without each run
abbrev pub infixes_of : ℤ → Array → Pieced
infixes_of n y = pieces_at y (infix_places n (tally y.shape))

abbrev pub outfixes_of : ℤ → Array → Pieced
outfixes_of n y = pieces_at y (outfix_places n (tally y.shape))

-- what a number gives; anything else is `domain error`
abbrev pub by_number : Atom → (ℤ → Pieced) → Result Pieced Fault
by_number (number n) f = Ok (f n)
by_number (byte b) f = Err Domain
by_number (nested k s r) f = Err Domain

-- the pieces of `n u\ y` and of `n u\. y`
abbrev pub infixes : Array → Array → Result Pieced Fault
infixes n y = by_number (atom_at n.atoms 0) (λ z. infixes_of z y)

abbrev pub outfixes : Array → Array → Result Pieced Fault
outfixes n y = by_number (atom_at n.atoms 0) (λ z. outfixes_of z y)
