-- What the calls of a machine say of a run.
use Rattle.std.specs.Prelude.{ℕ, ◌≡◌, Bool, ◌≤◌, [], Result, Ok, Err}
use Rattle.j_definitions.specs.Array.{Array}
use Rattle.j_definitions.specs.declared.Fault.{Fault}
use Rattle.j_entity.specs.Tree.{EntityTree}
use Rattle.j_entity.specs.View.{entity_of}
use Rattle.j_entity.specs.declared.entity.Entity.{Entity}
use Rattle.j_eval.specs.declared.outcome.Outcome.{Outcome as Answer}
use Rattle.j_eval.specs.declared.outcome.Outcome.TheVariants as answer
use Rattle.j_eval.specs.declared.outcome.Halt.{Halt}
use Rattle.j_eval.specs.declared.outcome.Halt.TheVariants as halt
use Rattle.j_eval.specs.Meaning.{Given}
use Rattle.j_verbs.specs.State.{State, Outcome, Gave, Erred, Spent}

-- what a machine is fit for
pub data Readiness : Type 0 where
  ready : Readiness
  spent : Readiness
  exhausted : Readiness

-- A machine: the state of its run, whether it goes on, and how much it has asked of its pool.
pub record Running : Type 0 where
  pub state : State
  pub readiness : Readiness
  pub asked : ℕ

-- The answer and the machine are the outcome of the run. Want of memory may come in place of any answer, and then nothing is shown.
abbrev pub Answers : Answer → Running → Outcome EntityTree → Type 0
Answers (answer.Value e) m o = (o ≡ Gave (entity_of e) m.state) × (m.readiness ≡ ready)
Answers (answer.Failed f) m o = (o ≡ Erred f m.state) × (m.readiness ≡ ready)
Answers answer.Spent m o = (o ≡ Spent m.state) × (m.readiness ≡ spent)
Answers answer.NoMemory m o = (m.readiness ≡ exhausted) × (m.state.shown ≡ [])

-- the machine with nothing shown
abbrev pub quiet : Running → Running
quiet m = record m { state = record m.state { shown = [] } }

-- A machine that is spent or exhausted answers the same from then on, and shows nothing.
abbrev pub Stays : Readiness → Answer → Running → Running → Type 0
Stays ready a m n = Unit {0}
Stays spent a m n = (a ≡ answer.Spent) × (n ≡ quiet m)
Stays exhausted a m n = (a ≡ answer.NoMemory) × (n ≡ quiet m)

-- What a call answers, and the machine, are the outcome. Want of memory may come in place of any answer.
abbrev pub AnswersCall : Result Array Halt → Running → Outcome Array → Type 0
AnswersCall (Ok y) m o = (o ≡ Gave y m.state) × (m.readiness ≡ ready)
AnswersCall (Err (halt.Failed f)) m o = (o ≡ Erred f m.state) × (m.readiness ≡ ready)
AnswersCall (Err halt.Spent) m o = (o ≡ Spent m.state) × (m.readiness ≡ spent)
AnswersCall (Err halt.NoMemory) m o = (m.readiness ≡ exhausted) × (m.state.shown ≡ [])

-- A call on a machine that is spent or exhausted answers the same, and changes nothing.
abbrev pub StaysIn : Readiness → Result Array Halt → Running → Running → Type 0
StaysIn ready r m n = Unit {0}
StaysIn spent r m n = (r ≡ Err halt.Spent) × (n ≡ m)
StaysIn exhausted r m n = (r ≡ Err halt.NoMemory) × (n ≡ m)

-- The answer of a part of a run, seen by f, and the machine, are the outcome. Want of memory may come in place of any answer.
abbrev pub MeetsAs : {A B : Type 0} → (A → B) → Result A Halt → Running → Outcome B → Type 0
MeetsAs f (Ok a) m o = o ≡ Gave (f a) m.state
MeetsAs f (Err (halt.Failed e)) m o = o ≡ Erred e m.state
MeetsAs f (Err halt.Spent) m o = o ≡ Spent m.state
MeetsAs f (Err halt.NoMemory) m o = Unit {0}

-- the same where what is given is seen as it is, and where it is seen in another place
abbrev pub Meets : {A : Type 0} → Result A Halt → Running → Outcome A → Type 0
Meets r m o = MeetsAs (λ a. a) r m o

abbrev pub MeetsAt : {A B : Type 0} → B → Result A Halt → Running → Outcome B → Type 0
MeetsAt b r m o = MeetsAs (λ _. b) r m o

-- Steps are only counted up, the budget stays, and so does what the machine is fit for.
pub record Onward (m n : Running) : Type 0 where
  pub steps : m.state.steps ≤ n.state.steps
  pub budget : n.state.budget ≡ m.state.budget
  pub readiness : n.readiness ≡ m.readiness

-- The machine is as before, but for what it has asked of its pool.
pub record Kept (m n : Running) : Type 0 where
  pub state : n.state ≡ m.state
  pub readiness : n.readiness ≡ m.readiness

-- what a sentence gives
abbrev pub given_of : Entity × Bool → Given
given_of g = (entity_of g.0, g.1)

-- a value with a fact, or want of memory
abbrev pub NoMemoryOr : {A : Type 0} → Result A Halt → (A → Type 0) → Type 0
NoMemoryOr (Ok a) P = P a
NoMemoryOr (Err e) P = e ≡ halt.NoMemory

-- The answer of a part of a run that doesn't look at the state, seen by f. Want of memory may come in place of any answer.
abbrev pub IsPartAs : {A B : Type 0} → (A → B) → Result B Fault → Result A Halt → Type 0
IsPartAs f r (Ok a) = r ≡ Ok (f a)
IsPartAs f r (Err (halt.Failed e)) = r ≡ Err e
IsPartAs f r (Err halt.Spent) = ⊥
IsPartAs f r (Err halt.NoMemory) = Unit {0}
