-- What the top call answers.
use Rattle.std.specs.Prelude.{◌≡◌, ◌⊎◌, ℕ, List, [], ◌∷◌, length, map, nat_le, cond, codes, Option, None, Some, String}
use Rattle.std.specs.declared.alloc.Global.{Global}
use Rattle.j_io.specs.Outside.{text_under, IsPrefixOf}
use Rattle.j_cli.specs.Run.{End, RunState, Turn, going, stopped, spent, run_after, pieces, start, lines_of}

-- the bytes that are written and the status
pub record Answer : Type 0 where
  pub bytes : List ℕ
  pub status : ℕ

-- what the words ask for: the name of a text
pub record Request : Type 0 where
  pub file : List ℕ

abbrev pub standard_input : List ℕ
standard_input = codes "-"

-- the longest text
abbrev pub limit : ℕ
limit = 16777216

-- What the words ask for, or none where they are refused: so far the program's name alone.
abbrev pub request_of : List (List ℕ) → Option Request
request_of [] = Some (record { file = standard_input })
request_of (program ∷ []) = Some (record { file = standard_input })
request_of (program ∷ word ∷ words) = None

abbrev pub words_of : List (String Global) → List (List ℕ)
words_of words = map (λ word. word.bytes.items) words

abbrev pub status_of : End → ℕ
status_of going = 0
status_of stopped = 3
status_of spent = 4

-- what these lines show in a run, and how it ends
abbrev pub answer_from : RunState → List (List ℕ) → Answer
answer_from run lines = record { bytes = pieces run lines; status = status_of (run_after run lines).end }

abbrev pub answer_of : Turn → Answer
answer_of turn = record { bytes = turn.piece; status = status_of turn.run.end }

-- a text that is too long isn't executed
abbrev pub answer_too_long : Answer
answer_too_long = record { bytes = []; status = 7 }

abbrev pub answer_on : List ℕ → Answer
answer_on text = cond (nat_le (length text) limit) (answer_from start (lines_of text)) answer_too_long

abbrev pub answer_to : Option Request → (List ℕ → Option (List ℕ)) → Answer
answer_to None held = record { bytes = []; status = 2 }
answer_to (Some request) held = answer_on (text_under request.file held)

-- The answer to command words over texts that are held by name.
abbrev pub answer : List (List ℕ) → (List ℕ → Option (List ℕ)) → Answer
answer words held = answer_to (request_of words) held

-- want of memory, a read fault or a write fault
abbrev pub GaveUp : ℕ → Type 0
GaveUp status = (status ≡ 1) ⊎ ((status ≡ 5) ⊎ (status ≡ 6))

-- The status and the bytes are the answer's, or the call gave up and the bytes are a prefix of them.
abbrev pub IsAnswer : Answer → ℕ → List ℕ → Type 0
IsAnswer answer status bytes = ((status ≡ answer.status) × (bytes ≡ answer.bytes)) ⊎ (GaveUp status × IsPrefixOf bytes answer.bytes)
