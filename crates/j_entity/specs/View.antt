-- The trees that the code's values stand for, one level at a time.
use Rattle.std.specs.Prelude.{List, [], ◌∷◌, map, Option, Some, None, Bool, true, false, ◌&&◌}
use Rattle.j_leaves.specs.declared.modifier.Modifier.TheVariants as m
use Rattle.j_entity.specs.Tree.{VerbTree, OperandTree, OperatorTree, EntityTree, WordTree, SentenceTree, SentencesTree, PartTree, BodyTree, primitive, named, fork, noun_fork, hook, derived, derived2, explicit, explicit1, explicit2, verb, noun, rank_list, modifier, both, right, left, defined, a_noun, a_verb, an_adverb, a_conjunction, entity, ranks_word, name, local_copula, global_copula, open_mark, close_mark, no_words, word, no_sentences, sentence, no_part, part, body}
use Rattle.j_entity.specs.declared.entity.Parts.{Parts}
use Rattle.j_entity.specs.declared.entity.Parts.TheVariants as v
use Rattle.j_entity.specs.declared.entity.Operand.{Operand}
use Rattle.j_entity.specs.declared.entity.Operand.TheVariants as u
use Rattle.j_entity.specs.declared.entity.OperatorParts.{OperatorParts}
use Rattle.j_entity.specs.declared.entity.OperatorParts.TheVariants as o
use Rattle.j_entity.specs.declared.entity.Entity.{Entity}
use Rattle.j_entity.specs.declared.entity.Entity.TheVariants as e
use Rattle.j_entity.specs.declared.entity.Item.{Item}
use Rattle.j_entity.specs.declared.entity.Item.TheVariants as i
use Rattle.j_entity.specs.declared.entity.Part.{Part}
use Rattle.j_entity.specs.declared.entity.BodyParts.{BodyParts}
use Rattle.j_entity.specs.declared.entity.Held.{Held}
use Rattle.j_entity.specs.declared.entity.Held.TheVariants as h

abbrev pub operand_of : Operand → OperandTree
operand_of (u.Verb v) = verb v
operand_of (u.Noun n) = noun n
operand_of (u.Ranks l) = rank_list l

abbrev pub verb_of : Parts → VerbTree
verb_of (v.Primitive p) = primitive p
verb_of (v.Named n r) = named n r
verb_of (v.Fork f g h) = fork f g h
verb_of (v.NounFork n g h) = noun_fork n g h
verb_of (v.Hook g h) = hook g h
verb_of (v.Derived m u) = derived m (operand_of u)
verb_of (v.Derived2 m u v) = derived2 m (operand_of u) (operand_of v)
verb_of (v.Explicit b) = explicit b
verb_of (v.Explicit1 b u) = explicit1 b (operand_of u)
verb_of (v.Explicit2 b u v) = explicit2 b (operand_of u) (operand_of v)

abbrev pub operator_of : OperatorParts → OperatorTree
operator_of (o.Primitive m) = modifier m
operator_of (o.Both a b) = both a b
operator_of (o.Right c u) = right c (operand_of u)
operator_of (o.Left u c) = left (operand_of u) c
operator_of (o.Explicit b) = defined b

abbrev pub entity_of : Entity → EntityTree
entity_of (e.Noun n) = a_noun n
entity_of (e.Verb v) = a_verb v
entity_of (e.Adverb a) = an_adverb a
entity_of (e.Conjunction c) = a_conjunction c

abbrev pub word_of : Item → WordTree
word_of (i.Entity e) = entity (entity_of e)
word_of (i.Ranks l) = ranks_word l
word_of (i.Name n) = name n
word_of i.Local = local_copula
word_of i.Global = global_copula
word_of i.Open = open_mark
word_of i.Close = close_mark

abbrev pub words_tree : List WordTree → SentenceTree
words_tree [] = no_words
words_tree (w ∷ ws) = word w (words_tree ws)

-- the words of a sentence in a tree
abbrev pub words_of : SentenceTree → List WordTree
words_of no_words = []
words_of (word w s) = w ∷ words_of s

abbrev pub sentences_of : List (List WordTree) → SentencesTree
sentences_of [] = no_sentences
sentences_of (s ∷ ss) = sentence (words_tree s) (sentences_of ss)

-- whether a word may have a rank list after it
abbrev pub takes_ranks : WordTree → Bool
takes_ranks (entity (a_conjunction (modifier m.Rank))) = true
takes_ranks (entity (a_conjunction (modifier m.PowerOf))) = true
takes_ranks _ = false

-- each rank list stands directly after such a word
abbrev pub placed : Bool → List WordTree → Bool
placed after [] = true
placed after (ranks_word l ∷ ws) = after && placed false ws
placed after (w ∷ ws) = placed (takes_ranks w) ws

abbrev pub part_of : Option Part → PartTree
part_of None = no_part
part_of (Some p) = part (sentences_of p.sentences.items) p.moves.items

abbrev pub body_of : BodyParts → BodyTree
body_of b = body b.number (map (λ l. l.items) b.lines.items) (part_of b.monad) (part_of b.dyad)

abbrev pub held_of : Held → BodyTree
held_of (h.Own b) = body_of b
held_of (h.Shared b) = body_of b.value
