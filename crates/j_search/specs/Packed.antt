-- Numbers and their places in one word each.
use Rattle.std.specs.Prelude.{◌≡◌, ◌<◌, ◌≤◌, ◌-◌, ◌/◌, ◌%◌, ℕ, ℤ, pos, ◌+ℤ◌, Bool, true, false, ◌&&◌, nat_eq, nat_lt, cond, List, [], ◌∷◌, length, FitsSigned}
use Rattle.std.specs.Int.{w64}
use Rattle.std.specs.Ordering.{nat_cmp}
use lib.ListN.{get_or}
use Rattle.j_search.specs.declared.numbered.Range.{Range}
use Rattle.j_search.specs.declared.order.Direction.{Direction}
use Rattle.j_search.specs.declared.order.Direction.TheVariants.{Up, Down}
use Rattle.j_search.specs.declared.seeking.Side.{Side}
use Rattle.j_search.specs.declared.seeking.Side.TheVariants.{First, Last}
use Rattle.j_search.specs.Sought.{run}
use Rattle.j_search.specs.Searched.{comes_before}

-- the place that a word has in its low digits, and the distance in front of it
abbrev pub place_in : ℕ → ℕ
place_in word = word % 4194304

abbrev pub distance_in : ℕ → ℕ
distance_in word = word / 4194304

-- how far a number is from the low end of a range, or from the number behind its high end
abbrev pub IsDistance : Direction → Range → ℤ → ℕ → Type 0
IsDistance Up r z far = z ≡ (r.low +ℤ pos far)
IsDistance Down r z far = (z +ℤ pos far) ≡ (r.low +ℤ pos r.width)

-- the word of the element at its place
pub record IsPacked {X : Type 0} (number : X → ℤ) (d : Direction) (r : Range) (xs : List X) (word : ℕ) : Type 0 where
  pub element : X
  pub here : run 1 xs (place_in word) ≡ element ∷ []
  pub distance : IsDistance d r (number element) (distance_in word)
  pub fits : FitsSigned w64 (number element)

-- whether word s comes before those of a distance
abbrev pub word_before : Side → List ℕ → ℕ → ℕ → Bool
word_before side ws far s = comes_before side (nat_cmp (distance_in (get_or ws s 0)) far)

-- so many words in front come before those of a distance, and the next one doesn't
pub record IsWordBoundary (side : Side) (ws : List ℕ) (far b : ℕ) : Type 0 where
  pub within : b ≤ length ws
  pub front : (s : ℕ) → s < b → word_before side ws far s ≡ true
  pub next : b < length ws → word_before side ws far b ≡ false

-- the place of a word of that distance, where so many come before the wanted one
abbrev pub word_place : Side → List ℕ → ℕ → ℕ → ℕ → ℕ
word_place First ws far b none = cond (nat_lt b (length ws) && nat_eq (distance_in (get_or ws b 0)) far) (place_in (get_or ws b 0)) none
word_place Last ws far b none = cond (nat_lt 0 b && nat_eq (distance_in (get_or ws (b - 1) 0)) far) (place_in (get_or ws (b - 1) 0)) none
