-- Names for the sentences worked out by hand.
use Rattle.std.specs.Prelude.{ℕ, ℤ, List, [], ◌∷◌, length, map as mapped, codes, Some, None}
use Rattle.j_definitions.specs.Array.{Array, number, byte, atom_array}
use Rattle.j_definitions.specs.declared.Kind.TheVariants.{Number, Character}
use Rattle.j_leaves.specs.declared.primitive.Primitive.{Primitive}
use Rattle.j_leaves.specs.declared.primitive.Primitive.TheVariants as p
use Rattle.j_leaves.specs.declared.modifier.Modifier.{Modifier}
use Rattle.j_leaves.specs.declared.modifier.Modifier.TheVariants as m
use Rattle.j_names.specs.Names.{Scopes, begun, put}
use Rattle.j_names.specs.Rows.{f}
use Rattle.j_names.specs.declared.target.Target.TheVariants as target
use Rattle.j_entity.specs.Tree.{EntityTree, VerbTree, WordTree, primitive, derived, derived2, modifier, a_noun, a_verb, an_adverb, a_conjunction, entity}
use Rattle.j_entity.specs.Tree as operand
use Rattle.j_verbs.specs.State.{State, Outcome, Gave}
use Rattle.j_eval.specs.Applying.{call, nested}
use Rattle.j_eval.specs.Meaning.{top}

-- one number, one character, and a list of numbers
abbrev pub atom : ℤ → Array
atom n = atom_array Number (number n)

abbrev pub character : ℕ → Array
character b = atom_array Character (byte b)

abbrev pub list : List ℤ → Array
list ns = record { kind = Number; shape = length ns ∷ []; atoms = mapped number ns }

-- words of sentences
abbrev pub noun : Array → WordTree
noun y = entity (a_noun y)

abbrev pub verb : Primitive → WordTree
verb v = entity (a_verb (primitive v))

abbrev pub plus : WordTree
plus = verb p.Plus

abbrev pub minus : WordTree
minus = verb p.Minus

abbrev pub times : WordTree
times = verb p.Times

abbrev pub joining : Modifier → WordTree
joining c = entity (a_conjunction (modifier c))

abbrev pub at : WordTree
at = joining m.At

abbrev pub swapped : WordTree
swapped = entity (an_adverb (modifier m.Passive))

abbrev pub amending : WordTree
amending = entity (an_adverb (modifier m.Amend))

-- numbers in a shape
abbrev pub shaped : List ℕ → List ℤ → Array
shaped s ns = record { kind = Number; shape = s; atoms = mapped number ns }

-- a word between items, and two of them with a dot
abbrev pub inserted : Primitive → VerbTree
inserted v = derived m.Insert (operand.verb (primitive v))

abbrev pub dotted : VerbTree → Primitive → VerbTree
dotted u v = derived2 m.Product (operand.verb u) (operand.verb (primitive v))

-- a word under another one
abbrev pub under : Primitive → Primitive → VerbTree
under u v = derived2 m.Under (operand.verb (primitive u)) (operand.verb (primitive v))

-- a verb on pieces
abbrev pub on_parts : Modifier → VerbTree → VerbTree
on_parts a u = derived a (operand.verb u)

-- `#` on the pieces of a cut
abbrev pub cut_by : ℤ → VerbTree
cut_by n = derived2 m.Cut (operand.verb (primitive p.Tally)) (operand.noun (atom n))

-- what a verb does with one noun and with two, where there are levels enough
abbrev pub on_one : VerbTree → Array → State → Outcome Array
on_one v y s = call (nested 9) v None y s

abbrev pub on_two : Array → VerbTree → Array → State → Outcome Array
on_two x v y s = call (nested 9) v (Some x) y s

-- so many steps counted of a hundred, and bytes shown
abbrev pub after : ℕ → List ℕ → State
after steps shown = record { steps = steps; budget = 100; shown = shown; names = begun }

-- so many steps counted of a budget, with the names of a run that begins
abbrev pub within : ℕ → ℕ → State
within budget steps = record { steps = steps; budget = budget; shown = []; names = begun }

-- a top sentence, before which no step was counted
abbrev pub top_of : List WordTree → Outcome EntityTree
top_of words = top words (after 0 [])

-- a value, after so many steps, and what it shows
abbrev pub gave : EntityTree → ℕ → List ℕ → Outcome EntityTree
gave e steps shown = Gave e (after steps shown)

-- beside the names of a run that begins f holds this
abbrev pub f_is : EntityTree → Scopes
f_is e = put begun target.Current f.base e

-- and so do a and b
abbrev pub a_and_b : EntityTree → EntityTree → Scopes
a_and_b d e = put (put begun target.Current (codes "a") d) target.Current (codes "b") e

-- and so does f in the locale p
abbrev pub f_of_p_is : EntityTree → Scopes
f_of_p_is e = put begun (target.Locale (codes "p")) f.base e

-- so many steps counted of a hundred, bytes shown, and names
abbrev pub knowing : Scopes → ℕ → List ℕ → State
knowing names steps shown = record { steps = steps; budget = 100; shown = shown; names = names }
