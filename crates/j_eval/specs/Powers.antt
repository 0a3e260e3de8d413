-- A verb time after time, each time on what the one before gave. Each time is a step.
use Rattle.std.specs.Prelude.{ℕ, zero, suc, ◌-◌, ℤ, pos, negsuc, List, ◌∷◌, Option, Some, None, if◌then◌else◌}
use Rattle.j_definitions.specs.Array.{Array, Atom, number, arrays_match}
use Rattle.j_definitions.specs.declared.Fault.{Fault}
use Rattle.j_entity.specs.Tree.{OperandTree, verb, noun, rank_list}
use Rattle.j_trains.specs.Modifiers.{times_fault}
use Rattle.j_verbs.specs.ByRank.{Doing}
use Rattle.j_verbs.specs.State.{◌>>=◌, counted, fail, pure, Spent}
use Rattle.j_eval.specs.Operands.{Operand}

-- a verb once, which is a step
abbrev pub once : Doing → Doing
once f x y = counted (f x y)

-- a verb so many times
abbrev pub times : ℕ → Doing → Doing
times zero f x y = pure y
times (suc n) f x y = do
  r ← once f x y
  times n f x r

-- A verb until what it gives matches what it was given, where so many steps are left. Where none is left the run is spent.
abbrev pub until_same : ℕ → Doing → Doing
until_same zero f x y s = Spent s
until_same (suc left) f x y s = (do
  r ← once f x y
  if arrays_match r y then pure r else until_same left f x r) s

abbrev pub endless : Doing → Doing
endless f x y s = until_same (s.budget - s.steps) f x y s

abbrev pub or_none : ℤ → ℕ
or_none (pos n) = n
or_none (negsuc n) = 0

-- how many times a noun says
abbrev pub count_said : List Atom → ℕ
count_said (number n ∷ xs) = or_none n
count_said _ = 0

abbrev pub unless_fault : Option Fault → Doing → Doing
unless_fault None f x y = f x y
unless_fault (Some e) f x y = fail e

-- a verb as many times as a noun says
abbrev pub as_often : Array → Doing → Doing
as_often n f x y = unless_fault (times_fault n) (times (count_said n.atoms) f) x y

abbrev pub power_of : OperandTree → Doing → Doing → Doing
power_of (noun n) f g x y = as_often n f x y
power_of (rank_list l) f g x y = endless f x y
power_of (verb v) f g x y = do
  n ← g x y
  as_often n f x y

-- `u^:n`, `u^:_` and `u^:v`
abbrev pub power : Operand → Operand → Doing
power u v x y = power_of v.tree u.does v.does x y
