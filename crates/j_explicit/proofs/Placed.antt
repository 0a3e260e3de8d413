-- A rank list is read only right of a word that takes it.
use Rattle.std.proofs.Common.{◌≡◌, ◌&&◌, ℕ, List, [], ◌∷◌, Bool, true, false, cond, IsTrue, codes, bytes_eq, Option, Some, None, Result, Ok, Err, refl, subst}
use Rattle.j_definitions.specs.Array.{Array}
use Rattle.j_definitions.specs.Cells.{with_first}
use Rattle.j_definitions.specs.declared.Fault.{Fault}
use Rattle.j_numbers.specs.declared.fault.NumberFault.{NumberFault}
use Rattle.j_words.specs.declared.Class.{Class}
use Rattle.j_words.specs.declared.Class.TheVariants as class
use Rattle.j_words.specs.declared.Word.{Word}
use Rattle.j_leaves.specs.Names.{NameParts, name_of}
use Rattle.j_leaves.specs.Spelling.{primitive_of, modifier_of}
use Rattle.j_leaves.specs.declared.primitive.Primitive.{Primitive}
use Rattle.j_leaves.specs.declared.modifier.Modifier.{Modifier}
use Rattle.j_numbers.specs.Literals.{noun, read}
use Rattle.j_numbers.specs.declared.literal.Literal.{Literal}
use Rattle.j_numbers.specs.declared.literal.Literal.TheVariants as literal
use Rattle.j_entity.specs.Tree.{WordTree, entity, ranks_word, name, local_copula, global_copula, open_mark, close_mark}
use Rattle.j_entity.specs.View.{placed, takes_ranks}
use Rattle.j_explicit.specs.Reading.{noun_item, ranks_item, number_item, text_item, verb_item, noun_word_item, adverb_item, conjunction_item, copula_item, name_item, item_as, bytes_of, item_of, read_on, items_of}
use Rattle.j_explicit.specs.NounWords.{noun_word}
use Rattle.j_explicit.specs.Texts.{text}

-- a rank list only where the word before takes it, any other word, or a fault
abbrev Fits : Bool → Result WordTree Fault → Type 0
Fits ranks (Ok (ranks_word l)) = IsTrue ranks
Fits ranks (Ok w) = Unit {0}
Fits ranks (Err f) = Unit {0}

noun_fits : (ranks : Bool) (r : Result Array NumberFault) → Fits ranks (noun_item r)
noun_fits ranks (Ok y) = tt
noun_fits ranks (Err f) = tt

ranks_fit : (r : Result Literal NumberFault) → Fits true (ranks_item r)
ranks_fit (Ok (literal.Noun y)) = tt
ranks_fit (Ok (literal.Ranks l)) = refl
ranks_fit (Err f) = tt

number_fits : (ranks : Bool) (bytes : List ℕ) → Fits ranks (number_item ranks bytes)
number_fits true bytes = ranks_fit (read bytes)
number_fits false bytes = noun_fits false (noun bytes)

text_fits : (ranks : Bool) (r : Result Array Fault) → Fits ranks (text_item r)
text_fits ranks (Ok y) = tt
text_fits ranks (Err f) = tt

verb_fits : (ranks : Bool) (r : Option Primitive) → Fits ranks (verb_item r)
verb_fits ranks (Some p) = tt
verb_fits ranks None = tt

adverb_fits : (ranks : Bool) (r : Option Modifier) → Fits ranks (adverb_item r)
adverb_fits ranks (Some m) = tt
adverb_fits ranks None = tt

noun_word_fits : (ranks : Bool) (r : Option Array) → Fits ranks (noun_word_item r)
noun_word_fits ranks (Some y) = tt
noun_word_fits ranks None = tt

conjunction_fits : (ranks : Bool) (r : Option Modifier) → Fits ranks (conjunction_item r)
conjunction_fits ranks (Some m) = tt
conjunction_fits ranks None = tt

name_fits : (ranks : Bool) (r : Option NameParts) → Fits ranks (name_item r)
name_fits ranks (Some n) = tt
name_fits ranks None = tt

either_fits : (ranks b : Bool) (r s : Result WordTree Fault) → Fits ranks r → Fits ranks s → Fits ranks (cond b r s)
either_fits ranks true r s h k = h
either_fits ranks false r s h k = k

copula_fits : (ranks : Bool) (bytes : List ℕ) → Fits ranks (copula_item bytes)
copula_fits ranks bytes = either_fits ranks (bytes_eq bytes (codes "=.")) _ _ tt (either_fits ranks (bytes_eq bytes (codes "=:")) _ _ tt tt)

item_fits : (ranks : Bool) (c : Class) (bytes : List ℕ) → Fits ranks (item_as ranks c bytes)
item_fits ranks class.Number bytes = number_fits ranks bytes
item_fits ranks class.Text bytes = text_fits ranks (text bytes)
item_fits ranks class.Verb bytes = verb_fits ranks (primitive_of bytes)
item_fits ranks class.Adverb bytes = adverb_fits ranks (modifier_of bytes)
item_fits ranks class.Conjunction bytes = conjunction_fits ranks (modifier_of bytes)
item_fits ranks class.Copula bytes = copula_fits ranks bytes
item_fits ranks class.Open bytes = tt
item_fits ranks class.Close bytes = tt
item_fits ranks class.Name bytes = name_fits ranks (name_of bytes)
item_fits ranks class.NounWord bytes = noun_word_fits ranks (noun_word bytes)
item_fits ranks class.Control bytes = tt

-- each rank list stands where it may, after a word that takes ranks or one that doesn't
abbrev ArePlaced : Bool → Result (List WordTree) Fault → Type 0
ArePlaced ranks (Ok p) = IsTrue (placed ranks p)
ArePlaced ranks (Err f) = Unit {0}

taken : (b c : Bool) → IsTrue b → IsTrue c → IsTrue (b && c)
taken true c h k = k
taken false c h k = absurd (cc)

placed_first : (ranks : Bool) (w : WordTree) (rest : Result (List WordTree) Fault) → Fits ranks (Ok w) → ArePlaced (takes_ranks w) rest → ArePlaced ranks (with_first w rest)
placed_first ranks (entity e) (Ok p) h k = k
placed_first ranks (ranks_word l) (Ok p) h k = taken ranks (placed false p) h k
placed_first ranks (name n) (Ok p) h k = k
placed_first ranks local_copula (Ok p) h k = k
placed_first ranks global_copula (Ok p) h k = k
placed_first ranks open_mark (Ok p) h k = k
placed_first ranks close_mark (Ok p) h k = k
placed_first ranks w (Err f) h k = tt

placed_on : (ranks : Bool) (r : Result WordTree Fault) (rest : WordTree → Result (List WordTree) Fault) → Fits ranks r → ((w : WordTree) → ArePlaced (takes_ranks w) (rest w)) → ArePlaced ranks (read_on r rest)
placed_on ranks (Ok w) rest h k = placed_first ranks w (rest w) h (k w)
placed_on ranks (Err f) rest h k = tt

items_placed : (line : List ℕ) (ranks : Bool) (ws : List Word) → ArePlaced ranks (items_of line ranks ws)
items_placed line ranks [] = refl
items_placed line ranks (w ∷ ws) = placed_on ranks (item_of line ranks w) (λ i. items_of line (takes_ranks i) ws) (item_fits ranks w.class (bytes_of line w)) (λ i. items_placed line (takes_ranks i) ws)

-- the words that were read
pub words_placed : (line : List ℕ) (ws : List Word) (p : List WordTree) → items_of line false ws ≡ Ok p → IsTrue (placed false p)
words_placed line ws p e = subst (ArePlaced false) e (items_placed line false ws)
