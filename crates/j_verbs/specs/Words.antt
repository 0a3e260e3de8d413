-- What the verbs that are one word do on one cell or two. Each valence of each of them stands here by its name.
use Rattle.std.specs.Prelude.{◌≡◌, ℤ, true, Option, Some, None, Result, Ok, Err}
use Rattle.j_definitions.specs.Array.{Array, Atom, number, atom_array}
use Rattle.j_definitions.specs.Cells.{atom_at}
use Rattle.j_definitions.specs.declared.Fault.{Fault}
use Rattle.j_definitions.specs.declared.Fault.TheVariants.{Domain, Nonce}
use Rattle.j_definitions.specs.declared.Kind.TheVariants.{Number as NumberKind}
use Rattle.j_kernels.specs.Scalars.{monad_of, dyad_of, has_monad, has_dyad}
use Rattle.j_kernels.specs.declared.scalar.Scalar.{Scalar as ScalarVerb}
use Rattle.j_kernels.specs.declared.scalar.Scalar.TheVariants as scalar
use Rattle.j_leaves.specs.declared.primitive.Primitive.{Primitive}
use Rattle.j_leaves.specs.declared.primitive.Primitive.TheVariants as p
use Rattle.j_leaves.specs.Spelling.{constant}
use Rattle.j_verbs.specs.State.{pure, fail, or_fault}
use Rattle.j_verbs.specs.ByRank.{Doing}
use Rattle.j_verbs.specs.Calls.{of_one, of_two}
use Rattle.j_verbs.specs.declared.calls.Monad.TheVariants as monad
use Rattle.j_verbs.specs.declared.calls.Dyad.{Dyad}
use Rattle.j_verbs.specs.declared.calls.Dyad.TheVariants as dyad
use Rattle.j_verbs.specs.declared.table.Valence.{Valence}
use Rattle.j_verbs.specs.declared.table.Valence.TheVariants.{Scalar, OnOne, OnTwo, LeftArgument, RightArgument, Constant, LeftOut, Absent, Later}
use Rattle.j_verbs.specs.declared.table.Valences.{Valences}

-- the valence for a monad and for a dyad
abbrev pub each : Valence → Valence → Valences
each m d = record { monad = m; dyad = d }

abbrev pub both : Valence → Valences
both v = each v v

-- The verbs in the order of the vocabulary. Their ranks stand with the ranks of words.
abbrev pub valences : Primitive → Valences
valences p.Plus = both (Scalar scalar.Plus)
valences p.Minus = both (Scalar scalar.Minus)
valences p.Times = both (Scalar scalar.Times)
valences p.Divide = both (Scalar scalar.Divide)
valences p.Power = each LeftOut (Scalar scalar.Power)
valences p.Residue = both (Scalar scalar.Residue)
valences p.LesserOf = both (Scalar scalar.LesserOf)
valences p.GreaterOf = both (Scalar scalar.GreaterOf)
valences p.LessEqual = both (Scalar scalar.LessEqual)
valences p.GreaterEqual = both (Scalar scalar.GreaterEqual)
valences p.Double = both (Scalar scalar.Double)
valences p.Square = both (Scalar scalar.Square)
valences p.Or = each LeftOut (Scalar scalar.Or)
valences p.And = each LeftOut (Scalar scalar.And)
valences p.Not = each (Scalar scalar.Not) (OnTwo dyad.Less)
valences p.Halve = each (Scalar scalar.Halve) (OnTwo dyad.Match)
valences p.Less = each (OnOne monad.Boxed) (Scalar scalar.Less)
valences p.Greater = each (OnOne monad.Opened) (Scalar scalar.Greater)
valences p.Equal = each (OnOne monad.SelfClassify) (Scalar scalar.Equal)
valences p.NotEqual = each (OnOne monad.NubSieve) (Scalar scalar.NotEqual)
valences p.Nub = each (OnOne monad.Nub) Absent
valences p.Shape = each (OnOne monad.ShapeOf) (OnTwo dyad.Reshape)
valences p.Ravel = each (OnOne monad.Ravel) (OnTwo dyad.Append)
valences p.RavelItems = each (OnOne monad.RavelItems) (OnTwo dyad.Stitch)
valences p.Itemize = each (OnOne monad.Itemize) (OnTwo dyad.Laminate)
valences p.Link = each (OnOne monad.Raze) (OnTwo dyad.Link)
valences p.Words = each (OnOne monad.WordForms) LeftOut
valences p.Tally = each (OnOne monad.TallyOf) (OnTwo dyad.Copy)
valences p.Base = each (OnOne monad.BaseTwo) (OnTwo dyad.Base)
valences p.Antibase = each (OnOne monad.AntibaseTwo) (OnTwo dyad.Antibase)
valences p.Reverse = each (OnOne monad.Reverse) (OnTwo dyad.Rotate)
valences p.Transpose = each (OnOne monad.Transpose) (OnTwo dyad.TransposeBy)
valences p.Take = each (OnOne monad.Head) (OnTwo dyad.Take)
valences p.Tail = each (OnOne monad.Tail) Absent
valences p.Drop = each (OnOne monad.Behead) (OnTwo dyad.DropItems)
valences p.Curtail = each (OnOne monad.Curtail) Absent
valences p.From = each (OnOne monad.Catalogue) (OnTwo dyad.From)
valences p.IndexOf = each (OnOne monad.Integers) (OnTwo dyad.IndexOf)
valences p.LastIndexOf = each (OnOne monad.StepsAround) (OnTwo dyad.LastIndexOf)
valences p.Indices = each (OnOne monad.IndicesOfOnes) LeftOut
valences p.Member = each LeftOut (OnTwo dyad.Member)
valences p.GradeUp = each (OnOne monad.GradeUp) (OnTwo dyad.SortUp)
valences p.GradeDown = each (OnOne monad.GradeDown) (OnTwo dyad.SortDown)
valences p.Left = both LeftArgument
valences p.Right = both RightArgument
valences p.Cap = both Absent
valences p.Format = each (OnOne monad.Format) LeftOut
valences p.MinusNine = both Constant
valences p.MinusEight = both Constant
valences p.MinusSeven = both Constant
valences p.MinusSix = both Constant
valences p.MinusFive = both Constant
valences p.MinusFour = both Constant
valences p.MinusThree = both Constant
valences p.MinusTwo = both Constant
valences p.MinusOne = both Constant
valences p.Zero = both Constant
valences p.One = both Constant
valences p.Two = both Constant
valences p.Three = both Constant
valences p.Four = both Constant
valences p.Five = both Constant
valences p.Six = both Constant
valences p.Seven = both Constant
valences p.Eight = both Constant
valences p.Nine = both Constant
valences p.Echo = each Later Absent
valences p.Cocurrent = each Later Absent

-- the valence for a left argument, if there is one
abbrev pub valence : Primitive → Option Array → Valence
valence p None = (valences p).monad
valence p (Some x) = (valences p).dyad

-- a scalar verb is one in the valence where it stands
abbrev pub HasValence : ScalarVerb → Option Array → Type 0
HasValence v None = has_monad v ≡ true
HasValence v (Some x) = has_dyad v ≡ true

abbrev pub IsServed : Valence → Option Array → Type 0
IsServed (Scalar v) x = HasValence v x
IsServed (OnOne m) x = Unit {0}
IsServed (OnTwo d) x = Unit {0}
IsServed LeftArgument x = Unit {0}
IsServed RightArgument x = Unit {0}
IsServed Constant x = Unit {0}
IsServed LeftOut x = Unit {0}
IsServed Absent x = Unit {0}
IsServed Later x = Unit {0}

-- the number that is an atom's result
abbrev pub one_number : Result Atom Fault → Result Array Fault
one_number (Ok z) = Ok (atom_array NumberKind z)
one_number (Err e) = Err e

-- the atom of a cell of rank 0
abbrev pub atom_of : Array → Atom
atom_of y = atom_at y.atoms 0

-- a scalar verb, on one atom or two
abbrev pub scalar_cell : ScalarVerb → Option Array → Array → Result Array Fault
scalar_cell v None y = one_number (monad_of v (atom_of y))
scalar_cell v (Some x) y = one_number (dyad_of v (atom_of x) (atom_of y))

-- the left argument, where there is one, else the right one
abbrev pub left_of : Option Array → Array → Array
left_of None y = y
left_of (Some x) y = x

-- a verb on two nouns
abbrev pub two_cell : Dyad → Option Array → Array → Result Array Fault
two_cell d x y = of_two d (left_of x y) y

-- a constant verb's number
abbrev pub always : Option ℤ → Result Array Fault
always (Some n) = Ok (atom_array NumberKind (number n))
always None = Err Nonce

-- what a valence of a word does: what the language leaves out, and what isn't there yet, is `nonce error`, and a valence that a verb doesn't have `domain error`
abbrev pub done : Primitive → Valence → Doing
done p (Scalar v) x y = or_fault (scalar_cell v x y)
done p (OnOne m) x y = or_fault (of_one m y)
done p (OnTwo d) x y = or_fault (two_cell d x y)
done p LeftArgument x y = pure (left_of x y)
done p RightArgument x y = pure y
done p Constant x y = or_fault (always (constant p))
done p LeftOut x y = fail Nonce
done p Absent x y = fail Domain
done p Later x y = fail Nonce

-- a word on one cell or two
unfoldable pub word : Primitive → Doing
word p x y = done p (valence p x) x y
