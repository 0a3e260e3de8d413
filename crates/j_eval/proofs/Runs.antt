-- What a machine's answers say of the outcome of a run.
use Rattle.std.proofs.Common.{◌≡◌, ℕ, zero, suc, ◌+◌, ◌<◌, ◌≤◌, Result, Err, Option, refl, sym, ap, subst, ◌∙◌, true, false, Bool, rules, tests, arith}
use Rattle.std.specs.Prelude.{nat_lt, if◌then◌else◌}
use Rattle.j_eval.specs.declared.outcome.Halt.{Halt}
use Rattle.j_eval.specs.declared.outcome.Halt.TheVariants as halt
use Rattle.j_definitions.specs.Array.{Array}
use Rattle.j_definitions.specs.declared.Fault.TheVariants.{Stack}
use Rattle.j_entity.specs.Tree.{VerbTree}
use Rattle.j_entity.specs.Heights.{verb_height}
use Rattle.j_verbs.specs.State.{State, Outcome, Gave, Erred, Spent, Run, counted, one_step, fail}
use Rattle.j_verbs.specs.ByRank.{Doing}
use Rattle.j_eval.specs.Applying.{apply, call, nested}
use Rattle.j_eval.specs.Meets.{Running, Meets, MeetsAs}

abbrev next : State → State
next s = record s { steps = s.steps + 1 }

counted_when : {A : Type 0} (s : State) (go : Run A) → s.steps < s.budget → counted go s ≡ go (next s)
counted_when s go l = let e : nat_lt s.steps s.budget ≡ true = search (rules, tests) in rw e refl

-- a step was counted
pub record Ticked (s t : State) : Type 0 where
  pub room : s.steps < s.budget
  pub is : t ≡ next s

ticked_by : (s t : State) (b : Bool) → b ≡ nat_lt s.steps s.budget → (if b then Gave (tt {0}) (next s) else Spent s) ≡ Gave tt t → Ticked s t
ticked_by s t true e h = record { room = search (rules, tests); is = cc }
ticked_by s t false e h = absurd (cc)

pub ticked : (s t : State) → one_step s ≡ Gave tt t → Ticked s t
ticked s t h = ticked_by s t (nat_lt s.steps s.budget) refl h

pub counted_after : {A : Type 0} (s t : State) (go : Run A) → Ticked s t → counted go s ≡ go t
counted_after s t go h = counted_when s go h.room ∙ ap go (sym h.is)

-- a spent run, as a run of another type
abbrev spent_as : {A : Type 0} → Run A → Outcome (Unit {0}) → Outcome A
spent_as go (Gave u s) = go s
spent_as go (Erred f s) = Erred f s
spent_as go (Spent s) = Spent s

pub counted_err : {A B : Type 0} (f : A → B) (e : Halt) (m : Running) (s : State) (go : Run B) → Meets {A = Unit {0}} (Err e) m (one_step s) → MeetsAs f (Err e) m (counted go s)
counted_err {B = B} f e m s go h = by_test e (nat_lt s.steps s.budget) h
  where
    by_test : (e : Halt) (b : Bool) → Meets {A = Unit {0}} (Err e) m (if b then Gave (tt {0}) (next s) else Spent s) → MeetsAs f (Err e) m (if b then go (next s) else Spent s)
    by_test (halt.Failed x) true h = absurd (cc)
    by_test (halt.Failed x) false h = absurd (cc)
    by_test halt.Spent true h = absurd (cc)
    by_test halt.Spent false h = ap (spent_as go) h
    by_test halt.NoMemory b h = tt

nested_at : (room below h : ℕ) (v : VerbTree) → below + h + 1 ≡ room → nested room h v ≡ apply (nested below) v
nested_at zero below h v e = absurd (omega arith)
nested_at (suc room) below zero v e = let e' : room ≡ below = omega arith in ap (λ n. apply (nested n) v) e'
nested_at (suc room) below (suc h) v e = let e' : below + h + 1 ≡ room = omega arith in nested_at room below h v e'

nested_past : (room h : ℕ) (v : VerbTree) → room ≤ h → nested room h v ≡ (λ x y. fail Stack)
nested_past zero h v l = refl
nested_past (suc room) zero v l = absurd (omega arith)
nested_past (suc room) (suc h) v l = let l' : room ≤ h = omega arith in nested_past room h v l'

-- a call within the levels that are left
pub meets_call : (r : Result Array Halt) (m : Running) (room below : ℕ) (v : VerbTree) (x : Option Array) (y : Array) (s : State) → below + verb_height v + 1 ≡ room → Meets r m (apply (nested below) v x y s) → Meets r m (call (nested room) v x y s)
meets_call r m room below v x y s e h = subst (λ (d : Doing). Meets r m (d x y s)) (sym (nested_at room below (verb_height v) v e)) h

-- a call past them
pub stack_call : (room : ℕ) (v : VerbTree) (x : Option Array) (y : Array) (s : State) → room ≤ verb_height v → call (nested room) v x y s ≡ Erred Stack s
stack_call room v x y s l = ap (λ (d : Doing). d x y s) (nested_past room (verb_height v) v l)
