-- The bytes that a text keeps.
use Rattle.std.specs.Prelude.{ℕ, List}
use Rattle.j_leaves.specs.declared.name.Held.{Held}
use Rattle.j_leaves.specs.declared.name.Held.TheVariants.{Own, Shared}

abbrev pub bytes_held : Held → List ℕ
bytes_held (Own v) = v.items
bytes_held (Shared v) = v.value.items
