-- An element at a place of a list.
use Rattle.std.specs.Prelude.{ℕ, suc, zero, List, set}

-- places count from 1; place 0 is none
abbrev pub put_in : {X : Type 0} → List X → ℕ → X → List X
put_in xs zero x = xs
put_in xs (suc k) x = set xs k x
