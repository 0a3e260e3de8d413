use Rattle.std.proofs.Common.{◌≡◌, ◌≤◌, ◌∷◌, [], ◌++◌, true, map, length}
use Rattle.std.specs.List.{list_any}
use Rattle.j_noun.specs.declared.ranks.RankPart.TheVariants.{Number, Infinite}
use Rattle.j_noun.specs.Ranks.{is_infinite}
use Rattle.j_numbers.specs.Readings.{read_after}
use Rattle.j_numbers.proofs.words.read_ranks.Given as goal

abbrev pub invariant-loop-part : goal.invariant-loop-part
invariant-loop-part l = record {
  same : read_after l.ranks.items l.rest ≡ read_after (map Number l.numbers ++ Infinite ∷ []) l.text;
  infinite : list_any is_infinite l.ranks.items ≡ true;
  few : length l.ranks.items ≤ 4194304;
}

abbrev pub decreases-loop-part : goal.decreases-loop-part
decreases-loop-part l = length l.rest
