-- What the crate's own functions of order say.
use Rattle.std.specs.Prelude.{◌≡◌, ◌<◌, ◌*◌, ℕ, ℤ, List, length, map}
use Rattle.std.specs.List.{All, flat_map}
use Rattle.std.specs.List.Sorted.{IsPermutation, IsSortedBy}
use Rattle.std.specs.Borrow.{Bor}
use Rattle.std.specs.declared.cmp.Ordering.{Ordering}
use Rattle.std.specs.declared.cmp.Reverse.{Reverse}
use Rattle.std.specs.Ordering.{is_lt, nat_cmp, ordering_then}
use Rattle.std.specs.Cmp.Lexicographic.{slice_cmp}
use Rattle.j_search.specs.declared.order.Direction.{Direction}
use Rattle.j_search.specs.declared.order.Direction.TheVariants.{Up, Down}
use Rattle.j_search.specs.Sought.{run}
use Rattle.j_definitions.specs.Array.{Array, number, tally}
use Rattle.j_definitions.specs.Items.{item, item_size}
use Rattle.j_definitions.specs.declared.Kind.TheVariants.{Number}
use Rattle.j_search.specs.Order.{ranked, ordered}
use Rattle.j_search.specs.Matching.{places}

-- the order of two runs, and of equal ones that of their places
abbrev pub run_cmp : {X : Type 0} → (X → X → Ordering) → Direction → ℕ → List X → ℕ → ℕ → Ordering
run_cmp C Up size xs i j = ordering_then (slice_cmp C (run size xs i) (run size xs j)) (nat_cmp i j)
run_cmp C Down size xs i j = ordering_then (slice_cmp C (run size xs j) (run size xs i)) (nat_cmp i j)

-- the places of runs in that order
abbrev pub run_order : {X : Type 0} → (X → X → Ordering) → Direction → ℕ → ℕ → List X → List ℕ
run_order C d size n xs = ranked (λ i j. is_lt (run_cmp C d size xs i j)) n

-- the places that stand with keys
abbrev pub places_with : {K : Type 0} → List (K × ℕ) → List ℕ
places_with {K} keys = map {A = K × ℕ} (λ p. p.1) keys

-- the order of keys, and of equal ones that of their places
abbrev pub pair_cmp : {K : Type 0} → (K → K → Ordering) → K × ℕ → K × ℕ → Ordering
pair_cmp C p q = ordering_then (C p.0 q.0) (nat_cmp p.1 q.1)

-- the run of a place stands with it
abbrev pub IsKeyed : {X : Type 0} → ℕ → List X → Bor (List X) × ℕ → Type 0
IsKeyed size xs p = p.0.now ≡ run size xs p.1

abbrev pub IsKeyedBack : {X : Type 0} → ℕ → List X → Reverse (Bor (List X)) × ℕ → Type 0
IsKeyedBack size xs p = p.0.0.now ≡ run size xs p.1

-- all places of so many runs, in the order of the runs, and equal ones in their own
pub record IsInOrder {X : Type 0} (C : X → X → Ordering) (d : Direction) (size n : ℕ) (xs : List X) (ks : List ℕ) : Type 0 where
  pub moved : IsPermutation (places n) ks
  pub sorted : IsSortedBy (λ i j. is_lt (run_cmp C d size xs i j)) ks
  pub within : All (λ k. k < n) ks

abbrev pub IsAscending : {X : Type 0} → (X → X → Ordering) → ℕ → ℕ → List X → List ℕ → Type 0
IsAscending C size n xs ks = IsInOrder C Up size n xs ks

-- the numbers that are the atoms of x's items in the order of y's
pub record IsSortedOf (d : Direction) (x y : Array) (zs : List ℤ) : Type 0 where
  pub kind : Number ≡ x.kind
  pub atoms : map number zs ≡ flat_map (item x) (ordered d y)
  pub as_many : length zs ≡ tally x.shape * item_size x.shape
