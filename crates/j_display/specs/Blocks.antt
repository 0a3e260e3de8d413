-- Rows that grow to the right.
use Rattle.std.specs.Prelude.{ℕ, ◌*◌, ◌≤◌, List, [], ◌∷◌, ◌++◌, length, take, drop}
use Rattle.std.specs.List.{All}

-- each row of a block behind a row
abbrev pub beside : List (List ℕ) → List (List ℕ) → List (List ℕ)
beside [] block = []
beside (x ∷ xs) [] = x ∷ xs
beside (x ∷ xs) (b ∷ bs) = (x ++ b) ∷ beside xs bs

-- rows to which a block was appended, from one of them on
abbrev pub extended : List (List ℕ) → ℕ → List (List ℕ) → List (List ℕ)
extended rows at block = take at rows ++ beside (drop at rows) block

-- rows of these lengths, each of which stands at the head of a room of so many bytes
abbrev pub rows_within : ℕ → List ℕ → List ℕ → List (List ℕ)
rows_within room [] bytes = []
rows_within room (n ∷ lengths) bytes = take n bytes ∷ rows_within room lengths (drop room bytes)

-- no row is longer than its room, and all rooms are there
pub record HaveRoom (room : ℕ) (lengths bytes : List ℕ) : Type 0 where
  pub short : All (λ n. n ≤ room) lengths
  pub there : length lengths * room ≤ length bytes
