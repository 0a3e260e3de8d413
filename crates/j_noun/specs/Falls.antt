-- The nouns in the boxes of a noun have a smaller box level.
use Rattle.std.specs.Prelude.{◌+◌, ◌≤◌, max, List, [], ◌∷◌, map}
use Rattle.std.proofs.Common.{arith}
use denote.Param.Weighed.{most}
use Rattle.j_definitions.specs.Array.{Array, level, greatest_level, boxed}
use Rattle.j_definitions.proofs.Laws.{row_level-row_of}
use Rattle.j_noun.specs.Held.{array_held, atoms_kept}
use Rattle.j_noun.specs.declared.noun.Held.{Held}
use Rattle.j_noun.specs.declared.noun.Held.TheVariants.{Number, Character, Text, Boxed, Shared}
use Rattle.j_noun.specs.declared.noun.Atoms.{Atoms}
use Rattle.j_noun.specs.declared.noun.Atoms.TheVariants.{Wholes, Bits, Bytes, Boxes}
use Rattle.j_noun.specs.declared.noun.Noun.TheDeep.{deep-Held, deep-Atoms}

pub most_le-greatest : (kids : List Array) → most (λ k. level k + 1) kids ≤ greatest_level (map boxed kids)
most_le-greatest [] = omega arith
most_le-greatest (k ∷ ks) = omega (arith, row_level-row_of k.atoms, most_le-greatest ks)

deep_le-kept : (a : Atoms) → deep-Atoms a ≤ greatest_level (atoms_kept a)
deep_le-kept (Wholes v) = omega arith
deep_le-kept (Bits v) = omega arith
deep_le-kept (Bytes v) = omega arith
deep_le-kept (Boxes v) = omega (arith, most_le-greatest v.items)

pub deep_le-level : (h : Held) → max (deep-Held h) 0 ≤ level (array_held h)
deep_le-level (Number n) = omega arith
deep_le-level (Character b) = omega arith
deep_le-level (Text t) = omega arith
deep_le-level (Boxed rc) = omega (arith, row_level-row_of rc.value.noun.atoms)
deep_le-level (Shared rc) = omega (arith, deep_le-kept rc.value.atoms)
