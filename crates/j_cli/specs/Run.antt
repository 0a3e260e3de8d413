-- What a run of lines shows.
use Rattle.std.specs.Prelude.{ℕ, List, [], ◌∷◌, ◌++◌, Result, Ok, Err}
use Rattle.std.specs.Str.Lines.{lines}
use Rattle.j_definitions.specs.declared.Fault.{Fault}
use Rattle.j_verbs.specs.State.{State, Outcome, Gave, Erred, Spent}
use Rattle.j_explicit.specs.Reading.{reading}
use Rattle.j_names.specs.Names.{begun}
use Rattle.j_eval.specs.Meaning.{top}
use Rattle.j_entity.specs.Tree.{EntityTree, WordTree}
use Rattle.j_cli.specs.Report.{report}

-- the run goes on, an error has stopped it, or its steps are spent
pub data End : Type 0 where
  going : End
  stopped : End
  spent : End

-- the state before the next line, in which nothing is shown, and whether the run goes on
pub record RunState : Type 0 where
  pub state : State
  pub end : End

-- what one line makes of a run, and the piece that it shows
pub record Turn : Type 0 where
  pub run : RunState
  pub piece : List ℕ

-- most steps
abbrev pub budget : ℕ
budget = 100000000

-- the run that a sentence leaves
abbrev pub left_by : State → End → RunState
left_by s end = record { state = record s { shown = [] }; end = end }

-- what was shown, and then the report of an error
abbrev pub turn_of : List ℕ → Outcome EntityTree → Turn
turn_of line (Gave e s) = record { run = left_by s going; piece = s.shown }
turn_of line (Erred f s) = record { run = left_by s stopped; piece = s.shown ++ report f line }
turn_of line (Spent s) = record { run = left_by s spent; piece = s.shown }

-- a line in a run that goes on; one without words does nothing
abbrev pub executed : State → List ℕ → Result (List WordTree) Fault → Turn
executed s line (Err f) = record { run = record { state = s; end = stopped }; piece = report f line }
executed s line (Ok []) = record { run = record { state = s; end = going }; piece = [] }
executed s line (Ok (w ∷ words)) = turn_of line (top (w ∷ words) s)

abbrev pub turn_at : End → State → List ℕ → Turn
turn_at going s line = executed s line (reading line)
turn_at stopped s line = record { run = record { state = s; end = stopped }; piece = [] }
turn_at spent s line = record { run = record { state = s; end = spent }; piece = [] }

-- One more line. A run that has ended stays as it is and shows nothing.
unfoldable pub next : RunState → List ℕ → Turn
next run line = turn_at run.end run.state line

-- the run after these lines
abbrev pub run_after : RunState → List (List ℕ) → RunState
run_after run [] = run
run_after run (line ∷ rest) = run_after (next run line).run rest

-- the pieces that these lines show, joined
abbrev pub pieces : RunState → List (List ℕ) → List ℕ
pieces run [] = []
pieces run (line ∷ rest) = (next run line).piece ++ pieces (next run line).run rest

abbrev pub start : RunState
start = record { state = record { steps = 0; budget = budget; shown = []; names = begun }; end = going }

-- The lines of a text: a line ends before a line feed, and a carriage return directly before that isn't part of it; what stands after the last line feed is a line if it has a byte.
abbrev pub lines_of : List ℕ → List (List ℕ)
lines_of text = lines text
