-- What a verb and an operator keep.
use Rattle.std.specs.Prelude.{◌≡◌, ℕ, ◌≤◌, false}
use Rattle.j_leaves.specs.declared.ranks.Ranks.{Ranks}
use Rattle.j_entity.specs.Tree.{VerbTree, OperatorTree, primitive, modifier}
use Rattle.j_entity.specs.Heights.{verb_height, operator_height}
use Rattle.j_entity.specs.Ranks.{verb_ranks}
use Rattle.j_entity.specs.View.{verb_of, operator_of}
use Rattle.j_entity.specs.Words.{is_primitive, is_modifier}
use Rattle.j_entity.specs.declared.entity.VerbForm.{VerbForm}
use Rattle.j_entity.specs.declared.entity.VerbForm.TheVariants as v
use Rattle.j_entity.specs.declared.entity.OperatorForm.{OperatorForm}
use Rattle.j_entity.specs.declared.entity.OperatorForm.TheVariants as o

abbrev pub formed_verb : VerbForm → VerbTree
formed_verb (v.Primitive p) = primitive p
formed_verb (v.Made made) = verb_of made.value.parts

abbrev pub formed_operator : OperatorForm → OperatorTree
formed_operator (o.Primitive m) = modifier m
formed_operator (o.Made made) = operator_of made.value.parts

-- a made verb is no word, and has its height and its ranks beside it
pub record IsMade (height : ℕ) (ranks : Ranks) (t : VerbTree) : Type 0 where
  pub no_word : is_primitive t ≡ false
  pub height_is : height ≡ verb_height t
  pub height_fits : height ≤ 64
  pub ranks_are : ranks ≡ verb_ranks t

pub record IsMadeOperator (height : ℕ) (t : OperatorTree) : Type 0 where
  pub no_word : is_modifier t ≡ false
  pub height_is : height ≡ operator_height t
  pub height_fits : height ≤ 64

abbrev pub IsKeptVerb : VerbForm → Type 0
IsKeptVerb (v.Primitive p) = Unit {0}
IsKeptVerb (v.Made made) = IsMade made.value.height made.value.ranks (verb_of made.value.parts)

abbrev pub IsKeptOperator : OperatorForm → Type 0
IsKeptOperator (o.Primitive m) = Unit {0}
IsKeptOperator (o.Made made) = IsMadeOperator made.value.height (operator_of made.value.parts)
