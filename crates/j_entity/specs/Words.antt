-- Verbs and operators that are one word, and what is kept inline.
use Rattle.std.specs.Prelude.{Bool, true, false, IsTrue}
use Rattle.j_noun.specs.Held.{IsInline}
use Rattle.j_entity.specs.Tree.{VerbTree, OperandTree, OperatorTree, EntityTree, primitive, modifier, verb, noun, rank_list, a_noun, a_verb, an_adverb, a_conjunction}

abbrev pub is_primitive : VerbTree → Bool
is_primitive (primitive p) = true
is_primitive _ = false

abbrev pub is_modifier : OperatorTree → Bool
is_modifier (modifier m) = true
is_modifier _ = false

-- a primitive, a modifier or an atom that is not boxed, which are kept inline
abbrev pub IsInlineOperand : OperandTree → Type 0
IsInlineOperand (verb v) = IsTrue (is_primitive v)
IsInlineOperand (noun n) = IsInline n
IsInlineOperand (rank_list l) = ⊥

abbrev pub IsInlineEntity : EntityTree → Type 0
IsInlineEntity (a_noun n) = IsInline n
IsInlineEntity (a_verb v) = IsTrue (is_primitive v)
IsInlineEntity (an_adverb a) = IsTrue (is_modifier a)
IsInlineEntity (a_conjunction c) = IsTrue (is_modifier c)
