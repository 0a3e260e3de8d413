-- What a line says: the words of a sentence, or the first fault of its words and then of their values.
use Rattle.std.specs.Prelude.{ℕ, ◌-◌, cond, Bool, true, false, List, [], ◌∷◌, take, drop, codes, bytes_eq, Option, Some, None, Result, Ok, Err}
use Rattle.j_definitions.specs.Array.{Array}
use Rattle.j_definitions.specs.Cells.{with_first}
use Rattle.j_definitions.specs.declared.Fault.{Fault}
use Rattle.j_definitions.specs.declared.Fault.TheVariants as fault
use Rattle.j_numbers.specs.Literals.{noun, read}
use Rattle.j_numbers.specs.declared.literal.Literal.{Literal}
use Rattle.j_numbers.specs.declared.literal.Literal.TheVariants as literal
use Rattle.j_numbers.specs.declared.fault.NumberFault.{NumberFault}
use Rattle.j_numbers.specs.declared.fault.NumberFault.TheVariants as number
use Rattle.j_words.specs.Lines.{words}
use Rattle.j_words.specs.declared.Class.{Class}
use Rattle.j_words.specs.declared.Class.TheVariants as class
use Rattle.j_words.specs.declared.Word.{Word}
use Rattle.j_words.specs.declared.WordFault.{WordFault}
use Rattle.j_words.specs.declared.WordFault.TheVariants as word
use Rattle.j_leaves.specs.Names.{NameParts, name_of}
use Rattle.j_leaves.specs.Spelling.{primitive_of, modifier_of}
use Rattle.j_leaves.specs.declared.primitive.Primitive.{Primitive}
use Rattle.j_leaves.specs.declared.modifier.Modifier.{Modifier}
use Rattle.j_entity.specs.Tree.{WordTree, primitive, modifier, a_noun, a_verb, an_adverb, a_conjunction, entity, ranks_word, name, local_copula, global_copula, open_mark, close_mark}
use Rattle.j_entity.specs.View.{takes_ranks}
use Rattle.j_explicit.specs.NounWords.{noun_word}
use Rattle.j_explicit.specs.Texts.{text}

-- Want of memory is no line's fault.
abbrev pub fault_of_word : WordFault → Fault
fault_of_word word.OpenQuote = fault.OpenQuote
fault_of_word word.Spelling = fault.Spelling
fault_of_word word.Nonce = fault.Nonce
fault_of_word word.NoMemory = fault.Nonce

abbrev pub fault_of_number : NumberFault → Fault
fault_of_number number.IllFormed = fault.IllFormed
fault_of_number number.Overflow = fault.Overflow
fault_of_number number.Limit = fault.Limit
fault_of_number number.NoMemory = fault.Nonce

abbrev pub noun_item : Result Array NumberFault → Result WordTree Fault
noun_item (Ok y) = Ok (entity (a_noun y))
noun_item (Err f) = Err (fault_of_number f)

abbrev pub ranks_item : Result Literal NumberFault → Result WordTree Fault
ranks_item (Ok (literal.Noun y)) = Ok (entity (a_noun y))
ranks_item (Ok (literal.Ranks l)) = Ok (ranks_word l)
ranks_item (Err f) = Err (fault_of_number f)

-- a number word; its parts may be infinite where it stands right of a word that takes ranks
abbrev pub number_item : Bool → List ℕ → Result WordTree Fault
number_item true bytes = ranks_item (read bytes)
number_item false bytes = noun_item (noun bytes)

abbrev pub text_item : Result Array Fault → Result WordTree Fault
text_item (Ok y) = Ok (entity (a_noun y))
text_item (Err f) = Err f

abbrev pub noun_word_item : Option Array → Result WordTree Fault
noun_word_item (Some y) = Ok (entity (a_noun y))
noun_word_item None = Err fault.Spelling

abbrev pub verb_item : Option Primitive → Result WordTree Fault
verb_item (Some p) = Ok (entity (a_verb (primitive p)))
verb_item None = Err fault.Spelling

abbrev pub adverb_item : Option Modifier → Result WordTree Fault
adverb_item (Some m) = Ok (entity (an_adverb (modifier m)))
adverb_item None = Err fault.Spelling

abbrev pub conjunction_item : Option Modifier → Result WordTree Fault
conjunction_item (Some m) = Ok (entity (a_conjunction (modifier m)))
conjunction_item None = Err fault.Spelling

abbrev pub copula_item : List ℕ → Result WordTree Fault
copula_item bytes = cond (bytes_eq bytes (codes "=.")) (Ok local_copula) (cond (bytes_eq bytes (codes "=:")) (Ok global_copula) (Err fault.Spelling))

abbrev pub name_item : Option NameParts → Result WordTree Fault
name_item (Some n) = Ok (name n)
name_item None = Err fault.Spelling

-- The word that bytes of a class are; whether the word to its left takes ranks is known. A word of another class isn't executed yet.
abbrev pub item_as : Bool → Class → List ℕ → Result WordTree Fault
item_as ranks class.Number bytes = number_item ranks bytes
item_as ranks class.Text bytes = text_item (text bytes)
item_as ranks class.Verb bytes = verb_item (primitive_of bytes)
item_as ranks class.Adverb bytes = adverb_item (modifier_of bytes)
item_as ranks class.Conjunction bytes = conjunction_item (modifier_of bytes)
item_as ranks class.Copula bytes = copula_item bytes
item_as ranks class.Name bytes = name_item (name_of bytes)
item_as ranks class.Open bytes = Ok open_mark
item_as ranks class.Close bytes = Ok close_mark
item_as ranks class.NounWord bytes = noun_word_item (noun_word bytes)
item_as ranks class.Control bytes = Err fault.Nonce

-- the bytes of a word
abbrev pub bytes_of : List ℕ → Word → List ℕ
bytes_of line w = take (w.to - w.from) (drop w.from line)

abbrev pub item_of : List ℕ → Bool → Word → Result WordTree Fault
item_of line ranks w = item_as ranks w.class (bytes_of line w)

abbrev pub read_on : Result WordTree Fault → (WordTree → Result (List WordTree) Fault) → Result (List WordTree) Fault
read_on (Ok i) rest = with_first i (rest i)
read_on (Err f) rest = Err f

-- The words of a sentence from the left, each by its class and by whether the word to its left takes ranks, or the first fault.
abbrev pub items_of : List ℕ → Bool → List Word → Result (List WordTree) Fault
items_of line ranks [] = Ok []
items_of line ranks (w ∷ ws) = read_on (item_of line ranks w) (λ i. items_of line (takes_ranks i) ws)

abbrev pub sentence_of : List ℕ → Result (List Word) WordFault → Result (List WordTree) Fault
sentence_of line (Ok ws) = items_of line false ws
sentence_of line (Err f) = Err (fault_of_word f)

-- The sentence of a line, which has no word where the line has none. Its words come first, then their values.
abbrev pub reading : List ℕ → Result (List WordTree) Fault
reading line = sentence_of line (words line)
