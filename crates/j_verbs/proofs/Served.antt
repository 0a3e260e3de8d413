-- Scalar verbs stand in valences that they have.
use Rattle.std.proofs.Common.{refl, Some, None}
use Rattle.j_definitions.specs.Array.{Array}
use Rattle.j_leaves.specs.declared.primitive.Primitive.{Primitive}
use Rattle.j_leaves.specs.declared.primitive.Primitive.TheVariants as p
use Rattle.j_verbs.specs.Words.{valences, IsServed}

pub monad_served : (v : Primitive) → IsServed (valences v).monad None
monad_served p.Plus = refl
monad_served p.Minus = refl
monad_served p.Times = refl
monad_served p.Divide = refl
monad_served p.Residue = refl
monad_served p.LesserOf = refl
monad_served p.GreaterOf = refl
monad_served p.LessEqual = refl
monad_served p.GreaterEqual = refl
monad_served p.Double = refl
monad_served p.Square = refl
monad_served p.Not = refl
monad_served p.Halve = refl
monad_served _ = tt

pub dyad_served : (v : Primitive) (x : Array) → IsServed (valences v).dyad (Some x)
dyad_served p.Plus x = refl
dyad_served p.Minus x = refl
dyad_served p.Times x = refl
dyad_served p.Divide x = refl
dyad_served p.Power x = refl
dyad_served p.Residue x = refl
dyad_served p.LesserOf x = refl
dyad_served p.GreaterOf x = refl
dyad_served p.LessEqual x = refl
dyad_served p.GreaterEqual x = refl
dyad_served p.Double x = refl
dyad_served p.Square x = refl
dyad_served p.Or x = refl
dyad_served p.And x = refl
dyad_served p.Less x = refl
dyad_served p.Greater x = refl
dyad_served p.Equal x = refl
dyad_served p.NotEqual x = refl
dyad_served _ x = tt
