-- The state of a run, and what runs give.
use Rattle.std.specs.Prelude.{ℕ, ◌+◌, nat_lt, List, Result, Ok, Err, if◌then◌else◌}
use Rattle.j_definitions.specs.declared.Fault.{Fault}
use Rattle.j_names.specs.Names.{Scopes}

-- the steps counted, the most that there may be, the bytes shown since the present top line began, and the names
pub record State : Type 0 where
  pub steps : ℕ
  pub budget : ℕ
  pub shown : List ℕ
  pub names : Scopes

-- how a run ends, with the state that it leaves
pub data Outcome (A : Type 0) : Type 0 where
  Gave : A → State → Outcome A
  Erred : Fault → State → Outcome A
  Spent : State → Outcome A

-- a run that gives an A
abbrev pub Run : Type 0 → Type 0
Run A = State → Outcome A

-- goes on from what a run gave
abbrev pub then_do : {A B : Type 0} → Outcome A → (A → Run B) → Outcome B
then_do (Gave a s) go = go a s
then_do (Erred f s) go = Erred f s
then_do (Spent s) go = Spent s

infixl 10 ◌>>=◌
abbrev pub ◌>>=◌ : {A B : Type 0} → Run A → (A → Run B) → Run B
(m >>= go) s = then_do (m s) go

abbrev pub pure : {A : Type 0} → A → Run A
pure a s = Gave a s

abbrev pub fail : {A : Type 0} → Fault → Run A
fail f s = Erred f s

abbrev pub or_fault : {A : Type 0} → Result A Fault → Run A
or_fault (Ok a) = pure a
or_fault (Err f) = fail f

-- goes on where a run errs
abbrev pub else_do : {A : Type 0} → Outcome A → Run A → Outcome A
else_do (Gave a s) go = Gave a s
else_do (Erred f s) go = go s
else_do (Spent s) go = Spent s

-- a run, and where it errs another one from the state that it left
abbrev pub or_else : {A : Type 0} → Run A → Run A → Run A
or_else m go s = else_do (m s) go

-- Counts a step and goes on. Where the budget is spent nothing more happens.
abbrev pub counted : {A : Type 0} → Run A → Run A
counted m s = if nat_lt s.steps s.budget then m (record s { steps = s.steps + 1 }) else Spent s

abbrev pub Unit0 : Type 0
Unit0 = Unit {0}

abbrev pub one_step : Run Unit0
one_step = counted (pure tt)
