-- The stack of a sentence, its first entry first.
use Rattle.std.specs.Prelude.{ℕ, zero, suc, List, [], ◌∷◌, drop, map, reverse, Option, Some, None, Result, Ok, Err}
use Rattle.j_definitions.specs.Array.{Array}
use Rattle.j_definitions.specs.declared.Fault.{Fault}
use Rattle.j_definitions.specs.declared.Fault.TheVariants.{Syntax}
use Rattle.j_entity.specs.Tree.{VerbTree, OperandTree, OperatorTree, EntityTree, WordTree, verb, noun, rank_list, a_noun, a_verb, an_adverb, a_conjunction, entity, ranks_word, name, local_copula, global_copula, open_mark, close_mark}
use Rattle.j_entity.specs.View.{word_of}
use Rattle.j_eval.specs.declared.stack.Entry.{Entry}
use Rattle.j_eval.specs.declared.stack.Entry.TheVariants as entry
use Rattle.j_eval.specs.Table.{Slot, Start, Word, slot_at}

abbrev pub slot_of : Entry → Slot
slot_of entry.Start = Start
slot_of (entry.Word w) = Word (word_of w)

-- The code keeps the first entry last.
unfoldable pub stack_of : List Entry → List Slot
stack_of entries = reverse (map slot_of entries)

abbrev pub slot_word : Option Slot → Result WordTree Fault
slot_word None = Err Syntax
slot_word (Some Start) = Err Syntax
slot_word (Some (Word w)) = Ok w

-- the entity of a word
abbrev pub word_entity : WordTree → Result EntityTree Fault
word_entity (entity e) = Ok e
word_entity (ranks_word l) = Err Syntax
word_entity (name n) = Err Syntax
word_entity local_copula = Err Syntax
word_entity global_copula = Err Syntax
word_entity open_mark = Err Syntax
word_entity close_mark = Err Syntax

abbrev pub entity_noun : EntityTree → Result Array Fault
entity_noun (a_noun y) = Ok y
entity_noun (a_verb v) = Err Syntax
entity_noun (an_adverb a) = Err Syntax
entity_noun (a_conjunction c) = Err Syntax

abbrev pub entity_verb : EntityTree → Result VerbTree Fault
entity_verb (a_noun y) = Err Syntax
entity_verb (a_verb v) = Ok v
entity_verb (an_adverb a) = Err Syntax
entity_verb (a_conjunction c) = Err Syntax

abbrev pub entity_adverb : EntityTree → Result OperatorTree Fault
entity_adverb (a_noun y) = Err Syntax
entity_adverb (a_verb v) = Err Syntax
entity_adverb (an_adverb a) = Ok a
entity_adverb (a_conjunction c) = Err Syntax

abbrev pub entity_conjunction : EntityTree → Result OperatorTree Fault
entity_conjunction (a_noun y) = Err Syntax
entity_conjunction (a_verb v) = Err Syntax
entity_conjunction (an_adverb a) = Err Syntax
entity_conjunction (a_conjunction c) = Ok c

abbrev pub entity_operand : EntityTree → Result OperandTree Fault
entity_operand (a_noun y) = Ok (noun y)
entity_operand (a_verb v) = Ok (verb v)
entity_operand (an_adverb a) = Err Syntax
entity_operand (a_conjunction c) = Err Syntax

abbrev pub word_operand : WordTree → Result OperandTree Fault
word_operand (entity e) = entity_operand e
word_operand (ranks_word l) = Ok (rank_list l)
word_operand (name n) = Err Syntax
word_operand local_copula = Err Syntax
word_operand global_copula = Err Syntax
word_operand open_mark = Err Syntax
word_operand close_mark = Err Syntax

-- one step, and then the next on what it gave
abbrev pub then_in : {A B : Type 0} → Result A Fault → (A → Result B Fault) → Result B Fault
then_in (Ok a) next = next a
then_in (Err e) next = Err e

abbrev pub slot_operand : Slot → Result OperandTree Fault
slot_operand e = then_in (slot_word (Some e)) word_operand

-- what stands at a place, where it is that
unfoldable pub word_at : List Slot → ℕ → Result WordTree Fault
word_at es k = slot_word (slot_at es k)

unfoldable pub entity_at : List Slot → ℕ → Result EntityTree Fault
entity_at es k = then_in (word_at es k) word_entity

unfoldable pub noun_at : List Slot → ℕ → Result Array Fault
noun_at es k = then_in (entity_at es k) entity_noun

unfoldable pub verb_at : List Slot → ℕ → Result VerbTree Fault
verb_at es k = then_in (entity_at es k) entity_verb

unfoldable pub adverb_at : List Slot → ℕ → Result OperatorTree Fault
adverb_at es k = then_in (entity_at es k) entity_adverb

unfoldable pub conjunction_at : List Slot → ℕ → Result OperatorTree Fault
conjunction_at es k = then_in (entity_at es k) entity_conjunction

unfoldable pub operand_at : List Slot → ℕ → Result OperandTree Fault
operand_at es k = then_in (word_at es k) word_operand

-- An entity in place of n entries, with k entries before it.
abbrev pub replaced : ℕ → ℕ → EntityTree → List Slot → List Slot
replaced zero n e es = Word (entity e) ∷ drop n es
replaced (suc k) n e [] = []
replaced (suc k) n e (a ∷ es) = a ∷ replaced k n e es
