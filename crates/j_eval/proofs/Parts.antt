-- What the answer of a part of a run says of the outcome.
use Rattle.std.proofs.Common.{◌≡◌, Result, Ok, Err, ap, sym, subst, refl}
use Rattle.j_definitions.specs.Array.{Array}
use Rattle.j_definitions.specs.declared.Fault.{Fault}
use Rattle.j_noun.specs.declared.refusal.Refusal.{Refusal}
use Rattle.j_noun.specs.declared.refusal.Refusal.TheVariants as refusal
use Rattle.j_noun.specs.Refused.{OrWanting}
use Rattle.j_verbs.specs.Answered.{Gives}
use Rattle.j_verbs.specs.State.{State, Outcome, Gave, Run, Unit0, then_do, or_fault}
use Rattle.j_names.specs.Names.{Scopes, IsRefused}
use Rattle.j_eval.specs.Halting.{halt_of, halted}
use Rattle.j_eval.specs.Names.{with_names}
use Rattle.j_eval.specs.declared.outcome.Halt.{Halt}
use Rattle.j_eval.specs.declared.outcome.Halt.TheVariants as halt
use Rattle.j_eval.specs.Meets.{Running, Meets, MeetsAs, IsPartAs}

-- a call that makes a noun
pub meets_answer : (r : Result Array Fault) (a : Result Array Refusal) (m : Running) → OrWanting r a → Meets (halted a) m (or_fault r m.state)
meets_answer r (Ok y) m h = ap (λ (r : Result Array Fault). or_fault r m.state) h
meets_answer r (Err (refusal.Fault e)) m h = ap (λ (r : Result Array Fault). or_fault r m.state) h
meets_answer r (Err refusal.NoMemory) m h = tt

-- a call of a word
pub gives_meets : (f : Run Array) (a : Result Array Refusal) (m : Running) → Gives f a → Meets (halted a) m (f m.state)
gives_meets f (Ok y) m h = h m.state
gives_meets f (Err (refusal.Fault e)) m h = h m.state
gives_meets f (Err refusal.NoMemory) m h = tt

-- a part that doesn't look at the state
pub meets_part_as : {A B : Type 0} (f : A → B) (r : Result B Fault) (a : Result A Halt) (m : Running) → IsPartAs f r a → MeetsAs f a m (or_fault r m.state)
meets_part_as f r (Ok y) m h = ap (λ r. or_fault r m.state) h
meets_part_as f r (Err (halt.Failed e)) m h = ap (λ r. or_fault r m.state) h
meets_part_as f r (Err halt.Spent) m h = absurd h
meets_part_as f r (Err halt.NoMemory) m h = tt

-- where a part gives nothing, the whole gives nothing
pub then_err : {A B : Type 0} (e : Halt) (m : Running) (o : Outcome A) (go : A → Run B) → Meets {A = A} (Err e) m o → Meets {A = B} (Err e) m (then_do o go)
then_err (halt.Failed f) m o go h = ap (λ o. then_do o go) h
then_err halt.Spent m o go h = ap (λ o. then_do o go) h
then_err halt.NoMemory m o go h = tt

-- a name that is given what it holds, and one that isn't
pub set_ok : (q : Result Scopes Fault) (names : Scopes) (s : State) → q ≡ Ok names → then_do (or_fault q s) with_names ≡ Gave (tt {0}) (record s { names = names })
set_ok q names s h = ap (λ (q : Result Scopes Fault). then_do (or_fault q s) with_names) h

pub set_err : (q : Result Scopes Fault) (r : Refusal) (m : Running) → IsRefused q r → Meets {A = Unit0} (Err (halt_of r)) m (then_do (or_fault q m.state) with_names)
set_err (Err f) r m h = subst (λ (r : Refusal). Meets {A = Unit0} (Err (halt_of r)) m (then_do (or_fault (Err f) m.state) with_names)) (sym h) refl
set_err (Ok names) r m h = subst (λ (r : Refusal). Meets {A = Unit0} (Err (halt_of r)) m (then_do (or_fault (Ok names) m.state) with_names)) (sym h) tt
