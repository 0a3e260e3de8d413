-- What the top call did.
use Rattle.std.specs.Prelude.{◌≡◌, ℕ, List, Option, None, Some, Result, Ok, Err, option_map, String}
use Rattle.std.specs.declared.alloc.Global.{Global}
use Rattle.j_io.specs.Outside.{text_under}
use Rattle.j_cli.specs.Answer.{Request}
use Rattle.j_cli.specs.Halts.{ReadWithin}
use Rattle.j_cli.specs.declared.halt.WordsHalt.{WordsHalt}
use Rattle.j_cli.specs.declared.halt.WordsHalt.TheVariants.{NoMemory, Refused}

-- The name is what was asked for, or nothing was. Want of memory may come in place of either.
abbrev pub Reads : Option Request → Result (String Global) WordsHalt → Type 0
Reads asked (Ok file) = asked ≡ Some (record { file = file.bytes.items })
Reads asked (Err NoMemory) = Unit {0}
Reads asked (Err Refused) = asked ≡ None

-- what the selected text is, where the source tells it
abbrev pub asked_text : Request → Option (List ℕ → Option (List ℕ)) → Option (List ℕ)
asked_text request texts = option_map (text_under request.file) texts

-- The name that was asked for is selected, and at most one byte more than the limit was read of its text.
abbrev pub Used : Option Request → Option (List ℕ → Option (List ℕ)) → Option (List ℕ) → Option (List ℕ) → Type 0
Used None texts selected left = ⊥
Used (Some request) texts selected left = (selected ≡ Some request.file) × ReadWithin (asked_text request texts) left
