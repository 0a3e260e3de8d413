use Rattle.std.proofs.Common.{◌≡◌, ◌≤◌, map, length}
use Rattle.j_noun.specs.declared.ranks.RankPart.TheVariants.{Number}
use Rattle.j_numbers.specs.Literals.{read}
use Rattle.j_numbers.specs.Readings.{read_after}
use Rattle.j_numbers.proofs.words.read_list.Given as goal

abbrev pub invariant-loop-part : goal.invariant-loop-part
invariant-loop-part l = record {
  same : read_after (map Number l.numbers.items) l.rest ≡ read l.text;
  few : length l.numbers.items ≤ 4194304;
}

abbrev pub decreases-loop-part : goal.decreases-loop-part
decreases-loop-part l = length l.rest
