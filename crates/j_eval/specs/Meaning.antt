-- What a sentence does.
use Rattle.std.specs.Prelude.{ℕ, zero, suc, ◌+◌, ◌*◌, ◌==◌, ◌&&◌, Bool, true, false, List, [], ◌∷◌, length, drop, map, reverse, Option, Some, None, Result, Ok, Err, if◌then◌else◌}
use Rattle.j_definitions.specs.declared.Fault.{Fault}
use Rattle.j_definitions.specs.declared.Fault.TheVariants.{Syntax, Domain, Value}
use Rattle.j_noun.specs.declared.ranks.RankPart.{RankPart}
use Rattle.j_leaves.specs.Names.{NameParts}
use Rattle.j_entity.specs.Ranks.{verb_ranks, endless}
use Rattle.j_entity.specs.Tree.{EntityTree, VerbTree, WordTree, named, a_noun, a_verb, an_adverb, a_conjunction, right, rank_list, entity, ranks_word, name, local_copula, global_copula, open_mark, close_mark}
use Rattle.j_trains.specs.Form.{fork_of, bident_of, adverb_of, conjunction_of, formed_adverb, verb_entity}
use Rattle.j_eval.specs.declared.stack.Row.{Row}
use Rattle.j_eval.specs.declared.stack.Row.TheVariants as row
use Rattle.j_eval.specs.Applying.{Calls, call, nested}
use Rattle.j_eval.specs.Stack.{slot_operand, word_at, entity_at, noun_at, verb_at, operand_at, adverb_at, conjunction_at, then_in, replaced}
use Rattle.j_eval.specs.Names.{found, set_name}
use Rattle.j_eval.specs.Several.{set_text}
pub use Rattle.j_eval.specs.Showing.{most_shown, shown_as, show, show_unless}
use Rattle.j_eval.specs.Table.{Slot, Start, Word, slot_at, row_of, is_start, is_copula, kind_at}
use Rattle.j_verbs.specs.State.{Run, ◌>>=◌, pure, fail, counted, or_fault, Unit0}

-- a conjunction and a rank list right of it
abbrev pub ranked : EntityTree → List RankPart → Result EntityTree Fault
ranked (a_conjunction c) l = formed_adverb (right c (rank_list l))
ranked (a_noun y) l = Err Syntax
ranked (a_verb v) l = Err Syntax
ranked (an_adverb a) l = Err Syntax

-- an entity and a word right of it
abbrev pub entity_bident : EntityTree → WordTree → Result EntityTree Fault
entity_bident a (entity b) = bident_of a b
entity_bident a (ranks_word l) = ranked a l
entity_bident a w = Err Syntax

-- whether a copula is `=.`
abbrev pub is_local : Option Slot → Bool
is_local (Some (Word local_copula)) = true
is_local _ = false

-- what a row does left of a copula: a name is given the entity, or the names of a text
abbrev pub assigned : Bool → Option Slot → EntityTree → Run Unit0
assigned local None e = fail Domain
assigned local (Some Start) e = fail Domain
assigned local (Some (Word (name n))) e = set_name local n e
assigned local (Some (Word (entity (a_noun y)))) e = set_text local y e
assigned local (Some (Word (entity (a_verb v)))) e = fail Domain
assigned local (Some (Word (entity (an_adverb a)))) e = fail Domain
assigned local (Some (Word (entity (a_conjunction c)))) e = fail Domain
assigned local (Some (Word (ranks_word l))) e = fail Domain
assigned local (Some (Word local_copula)) e = fail Domain
assigned local (Some (Word global_copula)) e = fail Domain
assigned local (Some (Word open_mark)) e = fail Domain
assigned local (Some (Word close_mark)) e = fail Domain

abbrev pub word : EntityTree → Slot
word e = Word (entity e)

-- What a row does with the first entries. What it doesn't match is `syntax error`.
unfoldable pub reduced : Calls → Row → List Slot → Run (List Slot)
reduced calls row.Monad (a ∷ Word (entity (a_verb v)) ∷ Word (entity (a_noun y)) ∷ es) = do
  r ← call calls v None y
  pure (a ∷ word (a_noun r) ∷ es)
reduced calls row.MonadRight (a ∷ b ∷ Word (entity (a_verb v)) ∷ Word (entity (a_noun y)) ∷ es) = do
  r ← call calls v None y
  pure (a ∷ b ∷ word (a_noun r) ∷ es)
reduced calls row.Dyad (a ∷ Word (entity (a_noun x)) ∷ Word (entity (a_verb v)) ∷ Word (entity (a_noun y)) ∷ es) = do
  r ← call calls v (Some x) y
  pure (a ∷ word (a_noun r) ∷ es)
reduced calls row.Adverb (a ∷ u ∷ Word (entity (an_adverb b)) ∷ es) = do
  e ← or_fault (then_in (slot_operand u) (adverb_of b))
  pure (a ∷ word e ∷ es)
reduced calls row.Conjunction (a ∷ u ∷ Word (entity (a_conjunction c)) ∷ v ∷ es) = do
  e ← or_fault (then_in (slot_operand v) (λ v. then_in (slot_operand u) (λ u. conjunction_of c u v)))
  pure (a ∷ word e ∷ es)
reduced calls row.Fork (a ∷ f ∷ Word (entity (a_verb g)) ∷ Word (entity (a_verb h)) ∷ es) = do
  e ← or_fault (then_in (slot_operand f) (λ f. verb_entity (fork_of f g h)))
  pure (a ∷ word e ∷ es)
reduced calls row.Bident (a ∷ Word (entity b) ∷ Word c ∷ es) = do
  e ← or_fault (entity_bident b c)
  pure (a ∷ word e ∷ es)
reduced calls row.Assignment (a ∷ c ∷ Word (entity e) ∷ es) = do
  u ← assigned (is_local (Some c)) (Some a) e
  pure (word e ∷ es)
reduced calls row.Parentheses (a ∷ Word (entity e) ∷ es) = pure (word e ∷ drop 1 es)
reduced calls r es = fail Syntax

-- the verb and the noun at two places
unfoldable pub monad_at : Calls → List Slot → ℕ → ℕ → Run EntityTree
monad_at calls es i j = do
  v ← or_fault (verb_at es i)
  y ← or_fault (noun_at es j)
  r ← call calls v None y
  pure (a_noun r)

-- a verb between two nouns
unfoldable pub dyad_at : Calls → List Slot → Run EntityTree
dyad_at calls es = do
  x ← or_fault (noun_at es 1)
  v ← or_fault (verb_at es 2)
  y ← or_fault (noun_at es 3)
  r ← call calls v (Some x) y
  pure (a_noun r)

-- an adverb right of its operand
unfoldable pub modified : List Slot → Result EntityTree Fault
modified es = then_in (adverb_at es 2) (λ a. then_in (operand_at es 1) (adverb_of a))

-- a conjunction between its operands
unfoldable pub joined : List Slot → Result EntityTree Fault
joined es = then_in (conjunction_at es 2) (λ c. then_in (operand_at es 3) (λ v. then_in (operand_at es 1) (λ u. conjunction_of c u v)))

-- three verbs, or a noun and two verbs
unfoldable pub train : List Slot → Result EntityTree Fault
train es = then_in (verb_at es 2) (λ g. then_in (verb_at es 3) (λ h. then_in (operand_at es 1) (λ f. verb_entity (fork_of f g h))))

-- two entities
unfoldable pub bident : List Slot → Result EntityTree Fault
bident es = then_in (entity_at es 1) (λ b. then_in (word_at es 2) (entity_bident b))

-- what stands left of a copula is given an entity
unfoldable pub assignment : List Slot → Run EntityTree
assignment es = do
  e ← or_fault (entity_at es 2)
  u ← assigned (is_local (slot_at es 1)) (slot_at es 0) e
  pure e

-- what a row forms, where it applies no verb and assigns nothing
abbrev pub formed : Row → List Slot → Result EntityTree Fault
formed row.Adverb es = modified es
formed row.Conjunction es = joined es
formed row.Fork es = train es
formed row.Bident es = bident es
formed row.Parentheses es = entity_at es 1
formed row.Monad es = Err Syntax
formed row.MonadRight es = Err Syntax
formed row.Dyad es = Err Syntax
formed row.Assignment es = Err Syntax

-- the entity that a row makes of the first entries
abbrev pub made : Calls → Row → List Slot → Run EntityTree
made calls row.Monad es = monad_at calls es 1 2
made calls row.MonadRight es = monad_at calls es 2 3
made calls row.Dyad es = dyad_at calls es
made calls row.Assignment es = assignment es
made calls row.Adverb es = or_fault (formed row.Adverb es)
made calls row.Conjunction es = or_fault (formed row.Conjunction es)
made calls row.Fork es = or_fault (formed row.Fork es)
made calls row.Bident es = or_fault (formed row.Bident es)
made calls row.Parentheses es = or_fault (formed row.Parentheses es)

-- how many entries stay before it
abbrev pub kept : Row → ℕ
kept row.Monad = 1
kept row.MonadRight = 2
kept row.Dyad = 1
kept row.Adverb = 1
kept row.Conjunction = 1
kept row.Fork = 1
kept row.Bident = 1
kept row.Assignment = 0
kept row.Parentheses = 0

-- how many it stands for
abbrev pub used : Row → ℕ
used row.Monad = 2
used row.MonadRight = 2
used row.Dyad = 3
used row.Adverb = 2
used row.Conjunction = 3
used row.Fork = 3
used row.Bident = 2
used row.Assignment = 3
used row.Parentheses = 3

-- the same, by places
unfoldable pub reduced_by_places : Calls → Row → List Slot → Run (List Slot)
reduced_by_places calls r es = do
  e ← made calls r es
  pure (replaced (kept r) (used r) e es)

-- the entity that a sentence gives, and whether its last row was an assignment, so that it isn't shown
abbrev pub Given : Type 0
Given = EntityTree × Bool

abbrev pub is_assignment : Row → Bool
is_assignment row.Assignment = true
is_assignment row.Monad = false
is_assignment row.MonadRight = false
is_assignment row.Dyad = false
is_assignment row.Adverb = false
is_assignment row.Conjunction = false
is_assignment row.Fork = false
is_assignment row.Bident = false
is_assignment row.Parentheses = false

-- What a name becomes when it is moved. A verb's name stays a name, with the ranks of that verb; one that holds nothing counts as a verb of infinite ranks.
abbrev pub name_moved : NameParts → Option EntityTree → EntityTree
name_moved n None = a_verb (named n endless)
name_moved n (Some (a_noun y)) = a_noun y
name_moved n (Some (a_verb v)) = a_verb (named n (verb_ranks v))
name_moved n (Some (an_adverb a)) = an_adverb a
name_moved n (Some (a_conjunction c)) = a_conjunction c

-- A word as it is moved. A name directly left of a copula stays as it is.
abbrev pub word_moved : Bool → WordTree → Run WordTree
word_moved true (name n) = pure (name n)
word_moved false (name n) = do
  e ← found n
  pure (entity (name_moved n e))
word_moved left (entity e) = pure (entity e)
word_moved left (ranks_word l) = pure (ranks_word l)
word_moved left local_copula = pure local_copula
word_moved left global_copula = pure global_copula
word_moved left open_mark = pure open_mark
word_moved left close_mark = pure close_mark

-- a stack to which the next entry is moved
abbrev pub moved : List Slot → Slot → Run (List Slot)
moved es Start = pure (Start ∷ es)
moved es (Word w) = do
  v ← word_moved (is_copula (kind_at es 0)) w
  pure (Word v ∷ es)

abbrev pub goes_on : Option Row → (Row → Run Given) → Run Given → Run Given
goes_on (Some r) reduce move = reduce r
goes_on None reduce move = move

abbrev pub next_slot : List Slot → (Slot → List Slot → Run Given) → Run Given → Run Given
next_slot [] go end = end
next_slot (e ∷ es) go end = go e es

-- A verb's name that holds nothing is no value.
abbrev pub value_verb : VerbTree → Option EntityTree → Result EntityTree Fault
value_verb v None = Err Value
value_verb v (Some e) = Ok (a_verb v)

abbrev pub value_of : EntityTree → Run EntityTree
value_of (a_verb (named n r)) = found n >>= (λ e. or_fault (value_verb (named n r) e))
value_of e = pure e

-- At the end the stack is the start mark and one entity.
unfoldable pub finished : Bool → List Slot → Run Given
finished quiet es = if length es == 2 && is_start (kind_at es 0) then or_fault (entity_at es 1) >>= value_of >>= (λ e. pure (e, quiet)) else fail Syntax

-- The first row that matches is executed; where none does, the next entry is moved from the queue. The number bounds how often.
abbrev pub parsed : ℕ → Calls → Bool → List Slot → List Slot → Run Given
parsed zero calls quiet queue es = fail Syntax
parsed (suc k) calls quiet queue es =
    goes_on (row_of es) (λ r. counted (reduced calls r es >>= parsed k calls (is_assignment r) queue))
    (next_slot queue (λ e queue. moved es e >>= parsed k calls quiet queue) (finished quiet es))

-- the words from the right, last the start mark
abbrev pub queue_of : List WordTree → List Slot
queue_of words = reverse (Start ∷ map Word words)

-- The value of a sentence. Each word is moved once and goes in a row once, so the bound is enough.
abbrev pub sentence : Calls → List WordTree → Run Given
sentence calls words = counted (parsed (2 * length words + 3) calls false (queue_of words) [])

-- A sentence whose value is shown, unless its last row was an assignment.
abbrev pub executed : Calls → List WordTree → Run EntityTree
executed calls words = do
  g ← sentence calls words
  u ← show_unless g.1 g.0
  pure g.0

-- most levels of calls
unfoldable pub most_levels : ℕ
most_levels = 1000

-- A top sentence, before which nothing is shown.
abbrev pub top : List WordTree → Run EntityTree
top words s = executed (nested most_levels) words (record s { shown = [] })
