-- The words of characters, by their forms alone, each as a list in a box.
use Rattle.std.specs.Prelude.{ℕ, ◌-◌, List, [], ◌∷◌, length, map, take, drop, Option, Some, None, Result, Ok, Err}
use Rattle.j_definitions.specs.Array.{Array, Atom, number, byte, nested, boxed}
use Rattle.j_definitions.specs.Limits.{limited}
use Rattle.j_definitions.specs.declared.Fault.{Fault}
use Rattle.j_definitions.specs.declared.Fault.TheVariants as fault
use Rattle.j_definitions.specs.declared.Kind.TheVariants.{Character, Boxed}
use Rattle.j_words.specs.Lines.{spans}
use Rattle.j_words.specs.declared.Word.{Word}
use Rattle.j_words.specs.declared.WordFault.{WordFault}
use Rattle.j_words.specs.declared.WordFault.TheVariants as word

abbrev pub with_byte : ℕ → Option (List ℕ) → Option (List ℕ)
with_byte b (Some bytes) = Some (b ∷ bytes)
with_byte b None = None

-- the bytes of characters, or none where an atom is no character; no atoms are no bytes, of whichever kind
abbrev pub bytes_among : List Atom → Option (List ℕ)
bytes_among [] = Some []
bytes_among (byte b ∷ rest) = with_byte b (bytes_among rest)
bytes_among (number z ∷ rest) = None
bytes_among (nested k s r ∷ rest) = None

-- bytes as a list of characters, also where there is one
abbrev pub characters : List ℕ → Array
characters bytes = record { kind = Character; shape = length bytes ∷ []; atoms = map byte bytes }

-- the text of a word
abbrev pub text_of : List ℕ → Word → Array
text_of line w = characters (take (w.to - w.from) (drop w.from line))

-- a list of boxes
abbrev pub in_boxes : List Array → Array
in_boxes nouns = record { kind = Boxed; shape = length nouns ∷ []; atoms = map boxed nouns }

-- Want of memory is no fault of a text.
abbrev pub fault_of : WordFault → Fault
fault_of word.OpenQuote = fault.OpenQuote
fault_of word.Spelling = fault.Spelling
fault_of word.Nonce = fault.Nonce
fault_of word.NoMemory = fault.Nonce

-- the words of a line as boxed texts, or the line's fault
abbrev pub boxed_texts : List ℕ → Result (List Word) WordFault → Result Array Fault
boxed_texts line (Ok words) = limited (in_boxes (map (text_of line) words))
boxed_texts line (Err f) = Err (fault_of f)

abbrev pub word_forms_of : Option (List ℕ) → Result Array Fault
word_forms_of None = Err fault.Domain
word_forms_of (Some line) = boxed_texts line (spans line)

-- the boxed texts of the words of characters; other atoms are `domain error`
abbrev pub word_forms : Array → Result Array Fault
word_forms y = word_forms_of (bytes_among y.atoms)
