-- The trees of what verbs and operators lend.
use Rattle.j_entity.specs.Tree.{VerbTree, OperatorTree, primitive, named, fork, noun_fork, hook, derived, derived2, explicit, explicit1, explicit2, modifier, both, right, left, defined}
use Rattle.j_entity.specs.View.{operand_of}
use Rattle.j_entity.specs.declared.tree.Tree.{Tree}
use Rattle.j_entity.specs.declared.tree.Tree.TheVariants as t
use Rattle.j_entity.specs.declared.tree.OperatorTree.{OperatorTree as LentOperator}
use Rattle.j_entity.specs.declared.tree.OperatorTree.TheVariants as o

abbrev pub lent_verb : Tree → VerbTree
lent_verb (t.Primitive p) = primitive p
lent_verb (t.Named n r) = named n.now r
lent_verb (t.Fork f g h) = fork f.now g.now h.now
lent_verb (t.NounFork n g h) = noun_fork n.now g.now h.now
lent_verb (t.Hook g h) = hook g.now h.now
lent_verb (t.Derived m u) = derived m (operand_of u.now)
lent_verb (t.Derived2 m u v) = derived2 m (operand_of u.now) (operand_of v.now)
lent_verb (t.Explicit b) = explicit b.now
lent_verb (t.Explicit1 b u) = explicit1 b.now (operand_of u.now)
lent_verb (t.Explicit2 b u v) = explicit2 b.now (operand_of u.now) (operand_of v.now)

abbrev pub lent_operator : LentOperator → OperatorTree
lent_operator (o.Primitive m) = modifier m
lent_operator (o.Both a b) = both a.now b.now
lent_operator (o.Right c u) = right c.now (operand_of u.now)
lent_operator (o.Left u c) = left (operand_of u.now) c.now
lent_operator (o.Explicit b) = defined b.now
