-- The words of primitives and modifiers.
use Rattle.std.specs.Prelude.{ℕ, ℤ, pos, negsuc, List, [], ◌∷◌, codes, find, bytes_eq, Option, Some, None, Bool, true, false}
use Rattle.j_leaves.specs.declared.primitive.Primitive.{Primitive}
use Rattle.j_leaves.specs.declared.primitive.Primitive.TheVariants as p
use Rattle.j_leaves.specs.declared.modifier.Modifier.{Modifier}
use Rattle.j_leaves.specs.declared.modifier.Modifier.TheVariants as m

abbrev pub primitive_spelling : Primitive → List ℕ
primitive_spelling p.Plus = codes "+"
primitive_spelling p.Minus = codes "-"
primitive_spelling p.Times = codes "*"
primitive_spelling p.Divide = codes "%"
primitive_spelling p.Power = codes "^"
primitive_spelling p.Residue = codes "|"
primitive_spelling p.LesserOf = codes "<."
primitive_spelling p.GreaterOf = codes ">."
primitive_spelling p.LessEqual = codes "<:"
primitive_spelling p.GreaterEqual = codes ">:"
primitive_spelling p.Double = codes "+:"
primitive_spelling p.Square = codes "*:"
primitive_spelling p.Or = codes "+."
primitive_spelling p.And = codes "*."
primitive_spelling p.Not = codes "-."
primitive_spelling p.Halve = codes "-:"
primitive_spelling p.Less = codes "<"
primitive_spelling p.Greater = codes ">"
primitive_spelling p.Equal = codes "="
primitive_spelling p.NotEqual = codes "~:"
primitive_spelling p.Nub = codes "~."
primitive_spelling p.Shape = codes "$"
primitive_spelling p.Ravel = codes ","
primitive_spelling p.RavelItems = codes ",."
primitive_spelling p.Itemize = codes ",:"
primitive_spelling p.Link = codes ";"
primitive_spelling p.Words = codes ";:"
primitive_spelling p.Tally = codes "#"
primitive_spelling p.Base = codes "#."
primitive_spelling p.Antibase = codes "#:"
primitive_spelling p.Reverse = codes "|."
primitive_spelling p.Transpose = codes "|:"
primitive_spelling p.Take = codes "{."
primitive_spelling p.Tail = codes "{:"
primitive_spelling p.Drop = codes "}."
primitive_spelling p.Curtail = codes "}:"
primitive_spelling p.From = codes "{"
primitive_spelling p.IndexOf = codes "i."
primitive_spelling p.LastIndexOf = codes "i:"
primitive_spelling p.Indices = codes "I."
primitive_spelling p.Member = codes "e."
primitive_spelling p.GradeUp = codes "/:"
primitive_spelling p.GradeDown = codes "\\:"
primitive_spelling p.Left = codes "["
primitive_spelling p.Right = codes "]"
primitive_spelling p.Cap = codes "[:"
primitive_spelling p.Format = codes "\":"
primitive_spelling p.MinusNine = codes "_9:"
primitive_spelling p.MinusEight = codes "_8:"
primitive_spelling p.MinusSeven = codes "_7:"
primitive_spelling p.MinusSix = codes "_6:"
primitive_spelling p.MinusFive = codes "_5:"
primitive_spelling p.MinusFour = codes "_4:"
primitive_spelling p.MinusThree = codes "_3:"
primitive_spelling p.MinusTwo = codes "_2:"
primitive_spelling p.MinusOne = codes "_1:"
primitive_spelling p.Zero = codes "0:"
primitive_spelling p.One = codes "1:"
primitive_spelling p.Two = codes "2:"
primitive_spelling p.Three = codes "3:"
primitive_spelling p.Four = codes "4:"
primitive_spelling p.Five = codes "5:"
primitive_spelling p.Six = codes "6:"
primitive_spelling p.Seven = codes "7:"
primitive_spelling p.Eight = codes "8:"
primitive_spelling p.Nine = codes "9:"
primitive_spelling p.Echo = codes "echo"
primitive_spelling p.Cocurrent = codes "cocurrent"

-- those that have a word
abbrev pub primitive_words : List Primitive
primitive_words = p.Plus ∷ p.Minus ∷ p.Times ∷ p.Divide ∷ p.Power ∷ p.Residue ∷ p.LesserOf ∷ p.GreaterOf ∷ p.LessEqual ∷ p.GreaterEqual ∷ p.Double ∷ p.Square ∷ p.Or ∷ p.And ∷ p.Not ∷ p.Halve ∷ p.Less ∷ p.Greater ∷ p.Equal ∷ p.NotEqual ∷ p.Nub ∷ p.Shape ∷ p.Ravel ∷ p.RavelItems ∷ p.Itemize ∷ p.Link ∷ p.Words ∷ p.Tally ∷ p.Base ∷ p.Antibase ∷ p.Reverse ∷ p.Transpose ∷ p.Take ∷ p.Tail ∷ p.Drop ∷ p.Curtail ∷ p.From ∷ p.IndexOf ∷ p.LastIndexOf ∷ p.Indices ∷ p.Member ∷ p.GradeUp ∷ p.GradeDown ∷ p.Left ∷ p.Right ∷ p.Cap ∷ p.Format ∷ p.MinusNine ∷ p.MinusEight ∷ p.MinusSeven ∷ p.MinusSix ∷ p.MinusFive ∷ p.MinusFour ∷ p.MinusThree ∷ p.MinusTwo ∷ p.MinusOne ∷ p.Zero ∷ p.One ∷ p.Two ∷ p.Three ∷ p.Four ∷ p.Five ∷ p.Six ∷ p.Seven ∷ p.Eight ∷ p.Nine ∷ []

-- whether it has a word: a built-in verb has none
abbrev pub is_primitive_word : Primitive → Bool
is_primitive_word p.Echo = false
is_primitive_word p.Cocurrent = false
is_primitive_word _ = true

abbrev pub modifier_spelling : Modifier → List ℕ
modifier_spelling m.Insert = codes "/"
modifier_spelling m.Prefix = codes "\\"
modifier_spelling m.Suffix = codes "\\."
modifier_spelling m.Oblique = codes "/."
modifier_spelling m.Cut = codes ";."
modifier_spelling m.Passive = codes "~"
modifier_spelling m.Amend = codes "}"
modifier_spelling m.Rank = codes "\""
modifier_spelling m.Atop = codes "@"
modifier_spelling m.At = codes "@:"
modifier_spelling m.Bond = codes "&"
modifier_spelling m.Appose = codes "&:"
modifier_spelling m.Under = codes "&."
modifier_spelling m.PowerOf = codes "^:"
modifier_spelling m.Product = codes "."
modifier_spelling m.Adverse = codes "::"
modifier_spelling m.Monadic = codes ":"

abbrev pub modifier_words : List Modifier
modifier_words = m.Insert ∷ m.Prefix ∷ m.Suffix ∷ m.Oblique ∷ m.Cut ∷ m.Passive ∷ m.Amend ∷ m.Rank ∷ m.Atop ∷ m.At ∷ m.Bond ∷ m.Appose ∷ m.Under ∷ m.PowerOf ∷ m.Product ∷ m.Adverse ∷ m.Monadic ∷ []

-- the first of these whose spelling the word is
abbrev pub spelled_of : {P : Type 0} → (P → List ℕ) → List P → List ℕ → Option P
spelled_of spelling words w = find (λ p. bytes_eq (spelling p) w) words

abbrev pub primitive_of : List ℕ → Option Primitive
primitive_of w = spelled_of primitive_spelling primitive_words w

abbrev pub modifier_of : List ℕ → Option Modifier
modifier_of w = spelled_of modifier_spelling modifier_words w

-- an adverb takes its left operand alone, a conjunction one on each side
abbrev pub is_adverb : Modifier → Bool
is_adverb m.Insert = true
is_adverb m.Prefix = true
is_adverb m.Suffix = true
is_adverb m.Oblique = true
is_adverb m.Passive = true
is_adverb m.Amend = true
is_adverb _ = false

-- the number of a constant verb
abbrev pub constant : Primitive → Option ℤ
constant p.MinusNine = Some (negsuc 8)
constant p.MinusEight = Some (negsuc 7)
constant p.MinusSeven = Some (negsuc 6)
constant p.MinusSix = Some (negsuc 5)
constant p.MinusFive = Some (negsuc 4)
constant p.MinusFour = Some (negsuc 3)
constant p.MinusThree = Some (negsuc 2)
constant p.MinusTwo = Some (negsuc 1)
constant p.MinusOne = Some (negsuc 0)
constant p.Zero = Some (pos 0)
constant p.One = Some (pos 1)
constant p.Two = Some (pos 2)
constant p.Three = Some (pos 3)
constant p.Four = Some (pos 4)
constant p.Five = Some (pos 5)
constant p.Six = Some (pos 6)
constant p.Seven = Some (pos 7)
constant p.Eight = Some (pos 8)
constant p.Nine = Some (pos 9)
constant _ = None
