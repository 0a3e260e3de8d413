-- What the calls tell of a line, and of a word of it.
use Rattle.std.specs.Prelude.{◌≡◌, Result, Ok, Err}
use Rattle.j_definitions.specs.declared.Fault.{Fault}
use Rattle.j_noun.specs.declared.refusal.Refusal.{Refusal}
use Rattle.j_noun.specs.declared.refusal.Refusal.TheVariants.{Fault as RefusedFault, NoMemory as RefusedMemory}
use Rattle.j_numbers.specs.declared.fault.NumberFault.{NumberFault}
use Rattle.j_numbers.specs.declared.fault.NumberFault.TheVariants as number
use Rattle.j_words.specs.declared.WordFault.{WordFault}
use Rattle.j_words.specs.declared.WordFault.TheVariants as word
use Rattle.j_entity.specs.Tree.{WordTree}
use Rattle.j_entity.specs.View.{word_of}
use Rattle.j_entity.specs.declared.entity.Item.{Item}
use Rattle.j_explicit.specs.declared.fault.LineFault.{LineFault}
use Rattle.j_explicit.specs.declared.fault.LineFault.TheVariants as line
use Rattle.j_explicit.specs.Reading.{fault_of_word, fault_of_number}

-- the fault of a line or, for want of memory, anything
abbrev pub IsLineFault : {A : Type 0} → Result A Fault → LineFault → Type 0
IsLineFault said (line.Fault f) = said ≡ Err f
IsLineFault said line.NoMemory = Unit {0}

-- the word that is said or its fault, or memory was wanting
abbrev pub IsItem : Result WordTree Fault → Result Item LineFault → Type 0
IsItem said (Ok i) = said ≡ Ok (word_of i)
IsItem said (Err f) = IsLineFault said f

-- the word that is said, or its fault
abbrev pub IsExactItem : Result WordTree Fault → Result Item Fault → Type 0
IsExactItem said (Ok i) = said ≡ Ok (word_of i)
IsExactItem said (Err f) = said ≡ Err f

-- the refusals of words, of number words and of nouns, as those of a line
abbrev pub refused_word : WordFault → LineFault
refused_word word.NoMemory = line.NoMemory
refused_word f = line.Fault (fault_of_word f)

abbrev pub refused_number : NumberFault → LineFault
refused_number number.NoMemory = line.NoMemory
refused_number f = line.Fault (fault_of_number f)

abbrev pub refused_noun : Refusal → LineFault
refused_noun RefusedMemory = line.NoMemory
refused_noun (RefusedFault f) = line.Fault f
