-- Which verbs take back what others do.
use Rattle.std.specs.Prelude.{Option, Some, None}
use Rattle.j_leaves.specs.declared.primitive.Primitive.{Primitive}
use Rattle.j_leaves.specs.declared.primitive.Primitive.TheVariants as p
use Rattle.j_entity.specs.Tree.{VerbTree, primitive, named, fork, noun_fork, hook, derived, derived2, explicit, explicit1, explicit2}

-- the obverse of a word: `<` and `>`, `>:` and `<:`, `+:` and `-:` of each other, and some of themselves
abbrev pub word_obverse : Primitive → Option Primitive
word_obverse p.Less = Some p.Greater
word_obverse p.Greater = Some p.Less
word_obverse p.GreaterEqual = Some p.LessEqual
word_obverse p.LessEqual = Some p.GreaterEqual
word_obverse p.Double = Some p.Halve
word_obverse p.Halve = Some p.Double
word_obverse p.Plus = Some p.Plus
word_obverse p.Minus = Some p.Minus
word_obverse p.Not = Some p.Not
word_obverse p.Divide = Some p.Divide
word_obverse p.Reverse = Some p.Reverse
word_obverse p.Transpose = Some p.Transpose
word_obverse p.Left = Some p.Left
word_obverse p.Right = Some p.Right
word_obverse _ = None

-- Only a verb that is one word has an obverse, which is a word too: a name that holds such a word has none.
abbrev pub obverse_word : VerbTree → Option Primitive
obverse_word (primitive p) = word_obverse p
obverse_word (named n r) = None
obverse_word (fork f g h) = None
obverse_word (noun_fork n g h) = None
obverse_word (hook g h) = None
obverse_word (derived m u) = None
obverse_word (derived2 m u v) = None
obverse_word (explicit b) = None
obverse_word (explicit1 b u) = None
obverse_word (explicit2 b u v) = None

abbrev pub verb_of_word : Option Primitive → Option VerbTree
verb_of_word (Some p) = Some (primitive p)
verb_of_word None = None

-- the obverse of a verb, or none
abbrev pub obverse : VerbTree → Option VerbTree
obverse v = verb_of_word (obverse_word v)
