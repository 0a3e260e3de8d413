-- The axis lengths that a noun keeps.
use Rattle.std.specs.Prelude.{ℕ, ◌≤◌, List, length, take}
use Rattle.j_noun.specs.declared.axes.Kept.{Kept}
use Rattle.j_noun.specs.declared.axes.Kept.TheVariants.{Few, Many}

abbrev pub lengths_kept : Kept → List ℕ
lengths_kept (Few lengths count) = take count lengths
lengths_kept (Many v) = v.items

-- what is inline fits there, and there are at most 32 lengths
abbrev pub IsShort : Kept → Type 0
IsShort (Few lengths count) = count ≤ 4
IsShort (Many v) = length v.items ≤ 32
