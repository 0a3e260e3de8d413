-- The parts of names worked out by hand.
use Rattle.std.specs.Prelude.{ℕ, List, [], ◌∷◌, pos, map, length, codes}
use Rattle.std.specs.FinMap as finite
use Rattle.j_definitions.specs.Array.{Array, number, byte, boxed, atom_array}
use Rattle.j_definitions.specs.declared.Kind.TheVariants.{Number, Character, Boxed}
use Rattle.j_leaves.specs.declared.primitive.Primitive.TheVariants as p
use Rattle.j_leaves.specs.Names.{NameParts}
use Rattle.j_leaves.specs.declared.name.Place.TheVariants as place
use Rattle.j_entity.specs.Tree.{EntityTree, primitive, a_noun, a_verb}
use Rattle.j_names.specs.Names.{Key, Scopes}

-- names by the rows of the locales, the locals of each definition and the current locale
abbrev pub scoped : List (Key × EntityTree) → List (List (List ℕ × EntityTree)) → List ℕ → Scopes
scoped rows locals current = record { rows = finite.from_entries rows; locals = map (λ ls. finite.from_entries ls) locals; current = current }

-- the simple name of these bytes
abbrev pub simply : List ℕ → NameParts
simply base = record { base = base; place = place.Here }

abbrev pub f : NameParts
f = simply (codes "f")

abbrev pub g : NameParts
g = simply (codes "g")

abbrev pub fg : NameParts
fg = simply (codes "fg")

-- f_p_
abbrev pub f_in_p : NameParts
f_in_p = record { base = codes "f"; place = place.Locale (codes "p") }

-- f__o
abbrev pub f_of_o : NameParts
f_of_o = record { base = codes "f"; place = place.Object (codes "o") }

-- f as a row of a locale, and o
abbrev pub f_at : List ℕ → Key
f_at locale = (locale, codes "f")

abbrev pub o_at : List ℕ → Key
o_at locale = (locale, codes "o")

abbrev pub plus : EntityTree
plus = a_verb (primitive p.Plus)

abbrev pub five : EntityTree
five = a_noun (atom_array Number (number (pos 5)))

abbrev pub six : EntityTree
six = a_noun (atom_array Number (number (pos 6)))

abbrev pub seven : EntityTree
seven = a_noun (atom_array Number (number (pos 7)))

abbrev pub letter : ℕ → Array
letter b = atom_array Character (byte b)

abbrev pub text : List ℕ → Array
text bytes = record { kind = Character; shape = length bytes ∷ []; atoms = map (λ b. byte b) bytes }

abbrev pub box : Array → EntityTree
box a = a_noun (atom_array Boxed (boxed a))

-- a list of one box
abbrev pub box_list : Array → EntityTree
box_list a = a_noun (record { kind = Boxed; shape = 1 ∷ []; atoms = boxed a ∷ [] })
