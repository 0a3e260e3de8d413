-- The answer of a call that neither reads nor changes the state.
use Rattle.std.specs.Prelude.{◌≡◌, Result, Ok, Err}
use Rattle.j_definitions.specs.declared.Fault.{Fault}
use Rattle.j_definitions.specs.Array.{Array}
use Rattle.j_noun.specs.declared.refusal.Refusal.{Refusal}
use Rattle.j_noun.specs.declared.refusal.Refusal.TheVariants as refusal
use Rattle.j_verbs.specs.ByRank.{Cells}
use Rattle.j_verbs.specs.State.{State, Run, Gave, Erred}

-- the noun or the fault of a run in any state, which stays as it is, or memory was wanting
abbrev pub Gives : Run Array → Result Array Refusal → Type 0
Gives m (Ok a) = (s : State) → m s ≡ Gave a s
Gives m (Err (refusal.Fault e)) = (s : State) → m s ≡ Erred e s
Gives m (Err refusal.NoMemory) = Unit {0}

-- cells of fills or their fault, or memory was wanting
abbrev pub AreFills : Result Cells Fault → Result Cells Refusal → Type 0
AreFills r (Ok c) = r ≡ Ok c
AreFills r (Err (refusal.Fault e)) = r ≡ Err e
AreFills r (Err refusal.NoMemory) = Unit {0}
