-- Names for the rows worked out by hand.
use Rattle.std.specs.Prelude.{ℤ, List, [], ◌∷◌, length, map}
use Rattle.j_definitions.specs.Array.{number}
use Rattle.j_definitions.specs.declared.Kind.TheVariants.{Number}
use Rattle.j_leaves.specs.declared.primitive.Primitive.{Primitive}
use Rattle.j_leaves.specs.declared.modifier.Modifier.{Modifier}
use Rattle.j_entity.specs.Tree.{OperandTree, WordTree, primitive, modifier, verb, noun, entity, a_verb, a_conjunction}

-- an operand that is one word, one number or a list of numbers
abbrev pub on : Primitive → OperandTree
on p = verb (primitive p)

abbrev pub atom : ℤ → OperandTree
atom n = noun (record { kind = Number; shape = []; atoms = number n ∷ [] })

abbrev pub list : List ℤ → OperandTree
list ns = noun (record { kind = Number; shape = length ns ∷ []; atoms = map number ns })

-- the table of one row
abbrev pub row : List ℤ → OperandTree
row ns = noun (record { kind = Number; shape = 1 ∷ length ns ∷ []; atoms = map number ns })

-- a word of a sentence
abbrev pub verb_word : Primitive → WordTree
verb_word p = entity (a_verb (primitive p))

abbrev pub conjunction_word : Modifier → WordTree
conjunction_word m = entity (a_conjunction (modifier m))
