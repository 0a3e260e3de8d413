-- When a noun is refused, and the answer of a call that may want memory.
use Rattle.std.specs.Prelude.{◌≡◌, Result, Ok, Err}
use Rattle.j_definitions.specs.declared.Fault.{Fault}
use Rattle.j_definitions.specs.declared.Fault.TheVariants.{Limit}
use Rattle.j_noun.specs.declared.refusal.Refusal.{Refusal}
use Rattle.j_noun.specs.declared.refusal.Refusal.TheVariants.{Fault as RefusedFault, NoMemory}

-- `limit error` exactly where P, that the limits hold, is false; else memory was wanting
abbrev pub IsRefusedBeyond : Type 0 → Refusal → Type 0
IsRefusedBeyond P NoMemory = P
IsRefusedBeyond P (RefusedFault Limit) = P → ⊥
IsRefusedBeyond P (RefusedFault _) = ⊥

-- the value that is said, seen by f, or the fault that is said, or memory was wanting
abbrev pub OrWantingAs : {A B : Type 0} → (B → A) → Result A Fault → Result B Refusal → Type 0
OrWantingAs f said (Ok b) = said ≡ Ok (f b)
OrWantingAs f said (Err (RefusedFault e)) = said ≡ Err e
OrWantingAs f said (Err NoMemory) = Unit {0}

-- the same where the value is seen as it is
abbrev pub OrWanting : {A : Type 0} → Result A Fault → Result A Refusal → Type 0
OrWanting said answer = OrWantingAs (λ a. a) said answer
