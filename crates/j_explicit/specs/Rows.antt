-- Words of sentences, as rows worked out by hand name them.
use Rattle.std.specs.Prelude.{ℕ, ℤ, List, [], ◌∷◌, map, length}
use Rattle.j_definitions.specs.Array.{number, byte}
use Rattle.j_definitions.specs.declared.Kind.TheVariants.{Number, Character}
use Rattle.j_leaves.specs.declared.primitive.Primitive.{Primitive}
use Rattle.j_leaves.specs.declared.modifier.Modifier.{Modifier}
use Rattle.j_leaves.specs.declared.name.Place.TheVariants.{Here}
use Rattle.j_leaves.specs.declared.name.Place.{Place}
use Rattle.j_entity.specs.Tree.{WordTree, entity, name, a_noun, a_verb, a_conjunction, primitive, modifier}

abbrev pub atom : ℤ → WordTree
atom z = entity (a_noun (record { kind = Number; shape = []; atoms = number z ∷ [] }))

abbrev pub list : List ℤ → WordTree
list zs = entity (a_noun (record { kind = Number; shape = length zs ∷ []; atoms = map number zs }))

abbrev pub character : ℕ → WordTree
character b = entity (a_noun (record { kind = Character; shape = []; atoms = byte b ∷ [] }))

abbrev pub characters : List ℕ → WordTree
characters bs = entity (a_noun (record { kind = Character; shape = length bs ∷ []; atoms = map byte bs }))

abbrev pub verb : Primitive → WordTree
verb p = entity (a_verb (primitive p))

abbrev pub conjunction : Modifier → WordTree
conjunction m = entity (a_conjunction (modifier m))

-- a name at a place
abbrev pub located : List ℕ → Place → WordTree
located bytes place = name (record { base = bytes; place = place })

-- a name that is no locative
abbrev pub simple : List ℕ → WordTree
simple bytes = name (record { base = bytes; place = Here })
