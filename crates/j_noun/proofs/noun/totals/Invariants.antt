use Rattle.std.proofs.Common.{◌≡◌, ◌≤◌, ◌*◌, map, take}
use Rattle.std.specs.List.{sum_by}
use Rattle.j_definitions.specs.Array.{boxed, atom_weight, greatest_level}
use Rattle.j_noun.proofs.noun.totals.Given as goal

abbrev pub invariant-loop-kid : goal.invariant-loop-kid
invariant-loop-kid l = record {
  weighed : l.weight ≡ sum_by atom_weight (map boxed (take l.kid-index l.kids));
  levelled : l.level ≡ greatest_level (map boxed (take l.kid-index l.kids));
  small : l.weight ≤ 4194305 * l.kid-index;
}
