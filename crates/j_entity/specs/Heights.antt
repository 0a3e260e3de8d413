-- The height of a tree: what is made of parts is one higher than its highest part.
use Rattle.std.specs.Prelude.{ℕ, suc, max}
use Rattle.j_entity.specs.Tree.{VerbTree, OperandTree, OperatorTree, primitive, named, fork, noun_fork, hook, derived, derived2, explicit, explicit1, explicit2, verb, noun, rank_list, modifier, both, right, left, defined}

-- A body has no height of its own.
abbrev mutual
  pub verb_height : VerbTree → ℕ
  verb_height (primitive p) = 0
  verb_height (named n r) = 0
  verb_height (fork f g h) = suc (max (verb_height f) (max (verb_height g) (verb_height h)))
  verb_height (noun_fork n g h) = suc (max (verb_height g) (verb_height h))
  verb_height (hook g h) = suc (max (verb_height g) (verb_height h))
  verb_height (derived m u) = suc (operand_height u)
  verb_height (derived2 m u v) = suc (max (operand_height u) (operand_height v))
  verb_height (explicit b) = 0
  verb_height (explicit1 b u) = suc (operand_height u)
  verb_height (explicit2 b u v) = suc (max (operand_height u) (operand_height v))

  pub operand_height : OperandTree → ℕ
  operand_height (verb v) = verb_height v
  operand_height (noun n) = 0
  operand_height (rank_list l) = 0

abbrev pub operator_height : OperatorTree → ℕ
operator_height (modifier m) = 0
operator_height (both a b) = suc (max (operator_height a) (operator_height b))
operator_height (right c u) = suc (max (operator_height c) (operand_height u))
operator_height (left u c) = suc (max (operand_height u) (operator_height c))
operator_height (defined b) = 0
