-- Laws of the rule of cells.
use Rattle.std.specs.Prelude.{◌≡◌, pos, negsuc, Option, Some, None, Result}
use Rattle.j_definitions.specs.Array.{Array, IsNoun}
use Rattle.j_definitions.specs.declared.Fault.{Fault}
use Rattle.j_kernels.specs.Scalars.{monad_of, dyad_of, scalar_monad, scalar_dyad}
use Rattle.j_kernels.specs.declared.scalar.Scalar.{Scalar}
use Rattle.j_noun.specs.declared.ranks.Rank.TheVariants as rank
use Rattle.j_leaves.specs.declared.ranks.Ranks.{Ranks}
use Rattle.j_entity.specs.Ranks.{same, of}
use Rattle.j_joining.specs.Stitching.{stitch}
use Rattle.j_verbs.specs.declared.calls.Dyad.TheVariants.{Append}
use Rattle.j_verbs.specs.ByRank.{Doing, by_ranks}
use Rattle.j_verbs.specs.State.{State, Run, or_fault}
use Rattle.j_verbs.specs.Words.{scalar_cell, two_cell}

-- there is no left argument, or it is a noun
abbrev pub IsNounOrNone : Option Array → Type 0
IsNounOrNone (Some x) = IsNoun x
IsNounOrNone None = Unit {0}

-- the ranks of a valence are 0
abbrev pub AreZero : Ranks → Option Array → Type 0
AreZero r None = r.monad ≡ rank.Number (pos 0)
AreZero r (Some x) = (r.left ≡ rank.Number (pos 0)) × (r.right ≡ rank.Number (pos 0))

-- a scalar verb on whole nouns
abbrev pub scalar : Scalar → Option Array → Array → Result Array Fault
scalar v None y = scalar_monad (monad_of v) y
scalar v (Some x) y = scalar_dyad (dyad_of v) x y

-- a scalar verb on the cells of rank 0
abbrev pub scalar_verb : Scalar → Doing
scalar_verb v = by_ranks (same (of 0)) (λ x y. or_fault (scalar_cell v x y))

-- By the rule of cells it is its definition on whole nouns.
abbrev pub ScalarsAreWhole : Type 0
ScalarsAreWhole = (v : Scalar) (x : Option Array) (y : Array) (s : State) → IsNounOrNone x → IsNoun y → scalar_verb v x y s ≡ or_fault (scalar v x y) s

-- By rank 0 it is itself.
abbrev pub RankZeroIsItself : Type 0
RankZeroIsItself = (v : Scalar) (x : Option Array) (y : Array) (s : State) → IsNounOrNone x → IsNoun y → by_ranks (same (of 0)) (scalar_verb v) x y s ≡ scalar_verb v x y s

-- a run that neither reads nor changes the state
pub record IsPure (m : Run Array) : Type 0 where
  pub answer : Result Array Fault
  pub is : (s : State) → m s ≡ or_fault answer s

-- Where what is done on cells is pure, so is what the rule makes of it.
abbrev pub PureStaysPure : Type 0
PureStaysPure = (r : Ranks) (h : Option Array → Array → Result Array Fault) (x : Option Array) (y : Array) → IsPure (by_ranks r (λ a b. or_fault (h a b)) x y)

-- the items of two nouns joined, by the ranks by which each item is a cell
abbrev pub items_appended : Doing
items_appended = by_ranks (same (rank.Number (negsuc 0))) (λ x y. or_fault (two_cell Append x y))

-- `x ,. y` is `,` on the items of x and y.
abbrev pub StitchedByItems : Type 0
StitchedByItems = (x y : Array) (s : State) → items_appended (Some x) y s ≡ or_fault (stitch x y) s
