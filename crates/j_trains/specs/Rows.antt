-- The parts of trains worked out by hand, and what their laws speak of.
use Rattle.std.specs.Prelude.{ℕ, zero, suc, ℤ, pos, List, [], ◌∷◌, length, map, Result, Ok}
use Rattle.j_definitions.specs.Array.{Array, number, byte, boxed, atom_array}
use Rattle.j_definitions.specs.declared.Fault.{Fault}
use Rattle.j_definitions.specs.declared.Kind.{Kind}
use Rattle.j_definitions.specs.declared.Kind.TheVariants.{Number, Character, Boxed}
use Rattle.j_leaves.specs.declared.primitive.Primitive.TheVariants as p
use Rattle.j_leaves.specs.declared.modifier.Modifier.{Modifier}
use Rattle.j_leaves.specs.declared.modifier.Modifier.TheVariants as m
use Rattle.j_entity.specs.Tree.{VerbTree, OperandTree, OperatorTree, EntityTree, primitive, hook, derived, derived2, noun, modifier, both, a_noun, a_verb, an_adverb, a_conjunction}
use Rattle.j_entity.specs.Heights.{verb_height, operator_height}

abbrev pub plus : VerbTree
plus = primitive p.Plus

abbrev pub minus : VerbTree
minus = primitive p.Minus

abbrev pub times : VerbTree
times = primitive p.Times

abbrev pub five : Array
five = atom_array Number (number (pos 5))

-- operands
abbrev pub on_five : OperandTree
on_five = noun five

abbrev pub atom : ℤ → OperandTree
atom n = noun (atom_array Number (number n))

-- a noun of numbers in this shape
abbrev pub shaped : List ℕ → List ℤ → OperandTree
shaped s ns = noun (record { kind = Number; shape = s; atoms = map number ns })

-- the list of these numbers
abbrev pub numbers : List ℤ → OperandTree
numbers ns = shaped (length ns ∷ []) ns

-- a noun without atoms
abbrev pub nothing : Kind → List ℕ → OperandTree
nothing k s = noun (record { kind = k; shape = s; atoms = [] })

-- `'a'`, and the noun of that byte in this shape
abbrev pub letter : OperandTree
letter = noun (atom_array Character (byte 97))

abbrev pub letter_shaped : List ℕ → OperandTree
letter_shaped s = noun (record { kind = Character; shape = s; atoms = byte 97 ∷ [] })

-- `<5`
abbrev pub box : OperandTree
box = noun (atom_array Boxed (boxed five))

-- the verb that a modifier forms of one operand, and of two
abbrev pub alone : Modifier → OperandTree → Result EntityTree Fault
alone m u = Ok (a_verb (derived m u))

abbrev pub joined : Modifier → OperandTree → OperandTree → Result EntityTree Fault
joined m u v = Ok (a_verb (derived2 m u v))

abbrev pub at_word : OperatorTree
at_word = modifier m.At

abbrev pub insert_word : OperatorTree
insert_word = modifier m.Insert

-- hooks in hooks, of height n
abbrev pub tower : ℕ → VerbTree
tower zero = plus
tower (suc n) = hook (tower n) plus

-- two adverbs in two adverbs, of height n
abbrev pub adverb_tower : ℕ → OperatorTree
adverb_tower zero = insert_word
adverb_tower (suc n) = both (adverb_tower n) insert_word

-- a noun has no height
abbrev pub entity_height : EntityTree → ℕ
entity_height (a_noun n) = 0
entity_height (a_verb v) = verb_height v
entity_height (an_adverb a) = operator_height a
entity_height (a_conjunction c) = operator_height c
