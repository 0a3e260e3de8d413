-- What one line makes of a run.
use Rattle.std.proofs.Common.{◌≡◌, List, ℕ, ◌++◌, [], ◌∷◌, Option, Result, Ok, Err, refl, ap, sym, subst, inl, inr, arith}
use Rattle.j_definitions.specs.declared.Fault.{Fault}
use Rattle.j_io.specs.Outside.{Grew}
use Rattle.j_verbs.specs.State.{State, Outcome}
use Rattle.j_explicit.specs.Reading.{reading}
use Rattle.j_eval.specs.Meaning.{top}
use Rattle.j_eval.specs.Meets.{Running, Answers, ready}
use Rattle.j_entity.specs.Tree.{EntityTree, WordTree}
use Rattle.j_eval.specs.declared.outcome.Outcome.{Outcome as Answer}
use Rattle.j_eval.specs.declared.outcome.Outcome.TheVariants as answer
use Rattle.std.specs.Prelude.{OnOk}
use Rattle.j_cli.specs.Report.{report}
use Rattle.j_cli.specs.Run.{Turn, stopped, spent, left_by, next, turn_of, executed}
use Rattle.j_cli.specs.Answer.{Answer as Answering, GaveUp, answer_of}
use Rattle.j_cli.specs.Halts.{Answered, run_of, run_status}
use Rattle.j_cli.specs.declared.halt.RunHalt.{RunHalt}
use Rattle.j_cli.specs.declared.halt.RunHalt.TheVariants as halt
use Rattle.j_cli.proofs.Known.{grew_nothing}

-- all was written
pub answered_by : (a : Answering) (s : ℕ) (o n : Option (List ℕ)) → s ≡ a.status → Grew o n a.bytes → Answered a s o n
answered_by a s o n e grew = (a.bytes, grew, inl (e, refl))

-- nothing was written
pub answered_nothing : (a : Answering) (s : ℕ) (o : Option (List ℕ)) → GaveUp s → Answered a s o o
answered_nothing a s o gave = ([], grew_nothing o, inr (gave, (a.bytes, refl)))

pub wanting : GaveUp 1
wanting = inl refl

pub unread : GaveUp 5
unread = inr (inl refl)

-- what an answer and the machine after it say of a turn
abbrev pub TurnFits : Answer → Running → List ℕ → Turn → Type 0
TurnFits (answer.Value e) m line turn = (turn ≡ record { run = run_of m; piece = m.state.shown }) × (m.readiness ≡ ready)
TurnFits (answer.Failed f) m line turn = turn ≡ record { run = left_by m.state stopped; piece = m.state.shown ++ report f line }
TurnFits answer.Spent m line turn = turn ≡ record { run = left_by m.state spent; piece = m.state.shown }
TurnFits answer.NoMemory m line turn = Unit {0}

turn_given : (line : List ℕ) (items : List WordTree) (s : State) → reading line ≡ Ok items → (items ≡ [] → ⊥) → executed (record s { shown = [] }) line (reading line) ≡ turn_of line (top items s)
turn_given line [] s e some = absurd (some refl)
turn_given line (i ∷ items) s e some = ap (executed (record s { shown = [] }) line) e

next_given : (line : List ℕ) (items : List WordTree) (m : Running) → reading line ≡ Ok items → (items ≡ [] → ⊥) → next (run_of m) line ≡ turn_of line (top items m.state)
unfolding next
next_given line items m e some = turn_given line items m.state e some

fits_of : (a : Answer) (m : Running) (line : List ℕ) (o : Outcome EntityTree) → Answers a m o → TurnFits a m line (turn_of line o)
fits_of (answer.Value e) m line o p = (ap (turn_of line) p.0, p.1)
fits_of (answer.Failed f) m line o p = ap (turn_of line) p.0
fits_of answer.Spent m line o p = ap (turn_of line) p.0
fits_of answer.NoMemory m line o p = tt

-- a line with words
pub turn_fits : (a : Answer) (old new : Running) (line : List ℕ) (items : List WordTree) → reading line ≡ Ok items → (items ≡ [] → ⊥) → Answers a new (top items old.state) → TurnFits a new line (next (run_of old) line)
turn_fits a old new line items e some p = subst (TurnFits a new line) (sym (next_given line items old e some)) (fits_of a new line (top items old.state) p)

-- a line that can't be read
pub next_misread : (line : List ℕ) (f : Fault) (m : Running) → reading line ≡ Err f → next (run_of m) line ≡ record { run = left_by m.state stopped; piece = report f line }
unfolding next
next_misread line f m e = ap (executed (record m.state { shown = [] }) line) e

-- a line without words
pub next_empty : (line : List ℕ) (m : Running) → reading line ≡ Ok [] → next (run_of m) line ≡ record { run = run_of m; piece = [] }
unfolding next
next_empty line m e = ap (executed (record m.state { shown = [] }) line) e

-- the answer of a turn that is known
pub answered_turn : (turn known : Turn) (s : ℕ) (o n : Option (List ℕ)) → turn ≡ known → Answered (answer_of known) s o n → Answered (answer_of turn) s o n
answered_turn turn known s o n e p = subst (λ (t : Turn). Answered (answer_of t) s o n) (sym e) p

-- what holds whatever comes
pub on_ok : {T E P : Type 0} (r : Result T E) → P → OnOk r P
on_ok (Ok v) p = p
on_ok (Err e) p = tt

pub run_halted : (h : RunHalt) → run_status h ≡ 0 → ⊥
run_halted halt.NoMemory e = omega (arith, e)
run_halted halt.Stopped e = omega (arith, e)
run_halted halt.Spent e = omega (arith, e)
run_halted halt.Failed e = omega (arith, e)
