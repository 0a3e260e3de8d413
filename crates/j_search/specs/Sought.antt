-- What the look-up's own functions say.
use Rattle.std.specs.Prelude.{ℕ, ℤ, pos, ◌*◌, Bool, List, map, take, drop}
use Rattle.std.specs.Cmp.Lexicographic.{pointwise}
use Rattle.j_definitions.specs.Array.{Array, Atom, tally, atom_match, arrays_match}
use Rattle.j_definitions.specs.Items.{part}
use Rattle.j_search.specs.declared.seeking.Side.{Side}
use Rattle.j_search.specs.declared.seeking.Side.TheVariants.{First, Last}
use Rattle.j_search.specs.Matching.{places, first_of, last_of, item_of}

-- run k of a buffer, where each run has that many
abbrev pub run : {X : Type 0} → ℕ → List X → ℕ → List X
run size xs k = take size (drop (k * size) xs)

-- the first or the last place that passes
abbrev pub place_of : Side → (ℕ → Bool) → ℕ → ℕ
place_of First p n = first_of p n
place_of Last p n = last_of p n

-- for each of so many cells the place among so many items
abbrev pub run_places : {X : Type 0} → (X → X → Bool) → Side → ℕ → ℕ → ℕ → List X → List X → List ℤ
run_places same side size items cells xs ys = map (λ k. pos (place_of side (λ j. pointwise same (run size xs j) (run size ys k)) items)) (places cells)

-- the same of atoms
abbrev pub atom_places : Side → ℕ → ℕ → ℕ → List Atom → List Atom → List ℤ
atom_places side size items cells xs ys = map (λ k. pos (place_of side (λ j. pointwise atom_match (part size xs j) (part size ys k)) items)) (places cells)

-- the place of a noun among the items of x
abbrev pub item_place : Side → Array → Array → ℕ
item_place side x c = place_of side (λ j. arrays_match (item_of x j) c) (tally x.shape)
