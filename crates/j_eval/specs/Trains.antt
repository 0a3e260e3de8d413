-- What forks and hooks do, by what their parts do. The right part comes first.
use Rattle.std.specs.Prelude.{Bool, true, false, Option, Some, None}
use Rattle.j_definitions.specs.Array.{Array}
use Rattle.j_leaves.specs.declared.primitive.Primitive.{Primitive}
use Rattle.j_leaves.specs.declared.primitive.Primitive.TheVariants.{Cap}
use Rattle.j_entity.specs.Tree.{VerbTree, primitive}
use Rattle.j_verbs.specs.ByRank.{Doing}
use Rattle.j_verbs.specs.State.{◌>>=◌}

-- the left argument, where there is one, else the right one
abbrev pub left_of : Option Array → Array → Array
left_of None y = y
left_of (Some x) y = x

-- whether a verb is `[:`
abbrev pub is_cap_word : Primitive → Bool
is_cap_word Cap = true
is_cap_word v = false

abbrev pub is_cap : VerbTree → Bool
is_cap (primitive v) = is_cap_word v
is_cap v = false

-- `f g h`; `[:` on the left isn't a part
abbrev pub forked : Bool → Doing → Doing → Doing → Doing
forked true f g h x y = do
  b ← h x y
  g None b
forked false f g h x y = do
  b ← h x y
  a ← f x y
  g (Some a) b

-- `n g h`
abbrev pub noun_forked : Array → Doing → Doing → Doing
noun_forked n g h x y = do
  b ← h x y
  g (Some n) b

-- `g h`
abbrev pub hooked : Doing → Doing → Doing
hooked g h x y = do
  b ← h None y
  g (Some (left_of x y)) b
