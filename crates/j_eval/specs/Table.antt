-- The parsing table: nine rows over the first four entries of the stack.
use Rattle.std.specs.Prelude.{ℕ, zero, suc, ◌&&◌, ◌||◌, Bool, true, false, List, [], ◌∷◌, find, Option, Some, None}
use Rattle.j_entity.specs.Tree.{EntityTree, WordTree, a_noun, a_verb, an_adverb, a_conjunction, entity, ranks_word, name, local_copula, global_copula, open_mark, close_mark}
use Rattle.j_eval.specs.declared.stack.EntryKind.{EntryKind}
use Rattle.j_eval.specs.declared.stack.EntryKind.TheVariants as kind
use Rattle.j_eval.specs.declared.stack.Row.{Row}
use Rattle.j_eval.specs.declared.stack.Row.TheVariants as row

-- an entry of the stack: the start mark or a word
pub data Slot : Type 0 where
  Start : Slot
  Word : WordTree → Slot

abbrev pub entity_kind : EntityTree → EntryKind
entity_kind (a_noun y) = kind.Noun
entity_kind (a_verb v) = kind.Verb
entity_kind (an_adverb a) = kind.Adverb
entity_kind (a_conjunction c) = kind.Conjunction

-- A rank list counts as a noun.
abbrev pub word_kind : WordTree → EntryKind
word_kind (entity e) = entity_kind e
word_kind (ranks_word l) = kind.Noun
word_kind (name n) = kind.Name
word_kind local_copula = kind.Copula
word_kind global_copula = kind.Copula
word_kind open_mark = kind.Open
word_kind close_mark = kind.Close

abbrev pub kind_of : Slot → EntryKind
kind_of Start = kind.Start
kind_of (Word w) = word_kind w

-- the entry at a place, the leftmost being the first
abbrev pub slot_at : List Slot → ℕ → Option Slot
slot_at [] k = None
slot_at (e ∷ es) zero = Some e
slot_at (e ∷ es) (suc k) = slot_at es k

abbrev pub slot_kind : Option Slot → EntryKind
slot_kind None = kind.Nothing
slot_kind (Some e) = kind_of e

-- the kind of the entry at a place
abbrev pub kind_at : List Slot → ℕ → EntryKind
kind_at es k = slot_kind (slot_at es k)

abbrev pub is_start : EntryKind → Bool
is_start kind.Start = true
is_start _ = false

abbrev pub is_copula : EntryKind → Bool
is_copula kind.Copula = true
is_copula _ = false

abbrev pub is_open : EntryKind → Bool
is_open kind.Open = true
is_open _ = false

abbrev pub is_close : EntryKind → Bool
is_close kind.Close = true
is_close _ = false

abbrev pub is_noun : EntryKind → Bool
is_noun kind.Noun = true
is_noun _ = false

abbrev pub is_verb : EntryKind → Bool
is_verb kind.Verb = true
is_verb _ = false

abbrev pub is_adverb : EntryKind → Bool
is_adverb kind.Adverb = true
is_adverb _ = false

abbrev pub is_conjunction : EntryKind → Bool
is_conjunction kind.Conjunction = true
is_conjunction _ = false

abbrev pub is_name : EntryKind → Bool
is_name kind.Name = true
is_name _ = false

-- the start mark, a copula or `(`
abbrev pub is_edge : EntryKind → Bool
is_edge k = is_start k || (is_copula k || is_open k)

-- a noun or a verb
abbrev pub is_operand : EntryKind → Bool
is_operand k = is_noun k || is_verb k

-- an edge, an adverb, a verb or a noun
abbrev pub is_left : EntryKind → Bool
is_left k = is_edge k || (is_adverb k || is_operand k)

-- a conjunction, an adverb, a verb or a noun
abbrev pub is_entity : EntryKind → Bool
is_entity k = is_conjunction k || (is_adverb k || is_operand k)

-- what each row asks of the first four entries
abbrev pub fits : EntryKind → EntryKind → EntryKind → EntryKind → Row → Bool
fits a b c d row.Monad = is_edge a && (is_verb b && is_noun c)
fits a b c d row.MonadRight = is_left a && (is_verb b && (is_verb c && is_noun d))
fits a b c d row.Dyad = is_left a && (is_noun b && (is_verb c && is_noun d))
fits a b c d row.Adverb = is_left a && (is_operand b && is_adverb c)
fits a b c d row.Conjunction = is_left a && (is_operand b && (is_conjunction c && is_operand d))
fits a b c d row.Fork = is_left a && (is_operand b && (is_verb c && is_verb d))
fits a b c d row.Bident = is_edge a && (is_entity b && is_entity c)
fits a b c d row.Assignment = (is_name a || is_noun a) && (is_copula b && is_entity c)
fits a b c d row.Parentheses = is_open a && (is_entity b && is_close c)

abbrev pub table : List Row
table = row.Monad ∷ row.MonadRight ∷ row.Dyad ∷ row.Adverb ∷ row.Conjunction ∷ row.Fork ∷ row.Bident ∷ row.Assignment ∷ row.Parentheses ∷ []

-- The first row that matches.
abbrev pub row_at : EntryKind → EntryKind → EntryKind → EntryKind → Option Row
row_at a b c d = find (fits a b c d) table

abbrev pub row_of : List Slot → Option Row
row_of es = row_at (kind_at es 0) (kind_at es 1) (kind_at es 2) (kind_at es 3)
