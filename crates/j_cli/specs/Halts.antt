-- What a function that may end early did.
use Rattle.std.specs.Prelude.{◌≡◌, ◌≤◌, ◌+◌, ℕ, List, length, Option, Result, Ok, Err, IsErrOf}
use Rattle.j_io.specs.Outside.{Rose, Grew, Took}
use Rattle.j_eval.specs.Meets.{Running as Machine}
use Rattle.j_cli.specs.Run.{RunState, going, left_by}
use Rattle.j_cli.specs.Answer.{Answer, IsAnswer, limit}
use Rattle.j_cli.specs.declared.halt.WordsHalt.{WordsHalt}
use Rattle.j_cli.specs.declared.halt.WordsHalt.TheVariants as words
use Rattle.j_cli.specs.declared.halt.ReadHalt.{ReadHalt}
use Rattle.j_cli.specs.declared.halt.ReadHalt.TheVariants as read
use Rattle.j_cli.specs.declared.halt.RunHalt.{RunHalt}
use Rattle.j_cli.specs.declared.halt.RunHalt.TheVariants as run
use Rattle.j_cli.specs.declared.halt.Halt.{Halt}
use Rattle.j_cli.specs.declared.halt.Halt.TheVariants.{Reading, Running}

-- the status of each
abbrev pub words_status : WordsHalt → ℕ
words_status words.NoMemory = 1
words_status words.Refused = 2

abbrev pub read_status : ReadHalt → ℕ
read_status read.NoMemory = 1
read_status read.Failed = 5
read_status read.TooLong = 7

abbrev pub run_status : RunHalt → ℕ
run_status run.NoMemory = 1
run_status run.Stopped = 3
run_status run.Spent = 4
run_status run.Failed = 6

abbrev pub halt_status : Halt → ℕ
halt_status (Reading halt) = read_status halt
halt_status (Running halt) = run_status halt

-- the status of a result, by those of its errors
abbrev pub status_by : {T E : Type 0} → (E → ℕ) → Result T E → ℕ
status_by of (Ok value) = 0
status_by of (Err halt) = of halt

-- the run that a machine is in while it goes on
abbrev pub run_of : Machine → RunState
run_of m = left_by m.state going

-- The bytes grew, and by these and the status it is the answer, or the call gave up and they are a prefix of its bytes.
abbrev pub Answered : Answer → ℕ → Option (List ℕ) → Option (List ℕ) → Type 0
Answered answer status old new = (written : List ℕ) × Grew old new written × IsAnswer answer status written

-- a count of faults never falls, and this error comes only where it rose
pub record Blames {T E : Type 0} (before now : ℕ) (result : Result T E) (fault : E) : Type 0 where
  pub later : before ≤ now
  pub rose : IsErrOf result fault → Rose before now

-- what was read, at most one byte more than the limit
pub record HasRead (old new : Option (List ℕ)) (text : List ℕ) : Type 0 where
  pub took : Took old new text
  pub most : length text ≤ limit + 1

-- at most one byte more than the limit was read
abbrev pub ReadWithin : Option (List ℕ) → Option (List ℕ) → Type 0
ReadWithin old new = (text : List ℕ) × HasRead old new text

-- the text was read up to one byte more than the limit
abbrev pub ReadBeyond : Option (List ℕ) → Option (List ℕ) → Type 0
ReadBeyond old new = (text : List ℕ) × HasRead old new text × (length text ≡ limit + 1)
