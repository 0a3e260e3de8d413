-- The answer to one text, and a run near its end.
use Rattle.std.specs.Prelude.{ℕ, List, [], Some}
use Rattle.j_names.specs.Names.{begun}
use Rattle.j_cli.specs.Run.{RunState, End, budget, going}
use Rattle.j_cli.specs.Answer.{Answer, answer}

-- the answer without words, over a source that holds the text under each name
abbrev pub run_on : List ℕ → Answer
run_on text = answer [] (λ name. Some text)

-- the state after so many steps, with the names of a run that begins
abbrev pub at_step : ℕ → End → RunState
at_step steps end = record { state = record { steps = steps; budget = budget; shown = []; names = begun }; end = end }

-- a run that may count two more steps
abbrev pub nearly_spent : RunState
nearly_spent = at_step 99999998 going
