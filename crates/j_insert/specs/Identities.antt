-- What a verb gives where it is inserted between no items.
use Rattle.std.specs.Prelude.{ℤ, pos, Option, Some, None}
use Rattle.j_leaves.specs.declared.primitive.Primitive.{Primitive}
use Rattle.j_leaves.specs.declared.primitive.Primitive.TheVariants as p

-- the identity of a verb, or none
abbrev pub identity : Primitive → Option ℤ
identity p.Less = Some (pos 0)
identity p.Greater = Some (pos 0)
identity p.Plus = Some (pos 0)
identity p.Minus = Some (pos 0)
identity p.Or = Some (pos 0)
identity p.NotEqual = Some (pos 0)
identity p.Residue = Some (pos 0)
identity p.Equal = Some (pos 1)
identity p.LessEqual = Some (pos 1)
identity p.GreaterEqual = Some (pos 1)
identity p.Times = Some (pos 1)
identity p.Divide = Some (pos 1)
identity p.And = Some (pos 1)
identity p.Power = Some (pos 1)
identity _ = None
