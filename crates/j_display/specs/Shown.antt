-- What showing does to the bytes that are shown.
use Rattle.std.specs.Prelude.{◌≡◌, ◌≤◌, ◌<◌, ℕ, List, ◌++◌, length, Result, Ok, Err}
use Rattle.j_definitions.specs.declared.Fault.TheVariants.{Limit}
use Rattle.j_noun.specs.declared.refusal.Refusal.{Refusal}
use Rattle.j_noun.specs.declared.refusal.Refusal.TheVariants as refusal

-- The bytes were appended within the room; or it is `limit error`, exactly where there is less room; or memory was wanting. After a refusal all is as before.
abbrev pub IsShown : {A : Type 0} → Result A Refusal → List ℕ → ℕ → List ℕ → List ℕ → Type 0
IsShown (Ok a) bytes room old new = (new ≡ old ++ bytes) × (length bytes ≤ room)
IsShown (Err (refusal.Fault Limit)) bytes room old new = (new ≡ old) × (room < length bytes)
IsShown (Err (refusal.Fault _)) bytes room old new = ⊥
IsShown (Err refusal.NoMemory) bytes room old new = new ≡ old
