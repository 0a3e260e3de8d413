use Rattle.std.proofs.Common.{◌≡◌, ◌<◌, ◌≤◌, ℕ, true, pos, length, map, get_or}
use Rattle.std.specs.Cmp.Lexicographic.{pointwise}
use Rattle.j_search.specs.Packed.{place_in, distance_in, word_before}
use Rattle.j_search.specs.Sought.{run, place_of}
use Rattle.j_search.proofs.merged.find_each_by_words.Given as goal

abbrev pub invariant-loop-turn : goal.invariant-loop-turn
invariant-loop-turn g l = record {
  wide : length l.places.items ≡ length l.cells;
  within : l.before ≤ length l.words.items;
  front : (r : ℕ) → l.turn-index ≤ r → r < length l.turn-items → (s : ℕ) → s < l.before → word_before l.side l.words.items (distance_in (get_or l.turn-items r 0)) s ≡ true;
  there : (r : ℕ) → r < l.turn-index → get_or l.places.items (get_or (map place_in l.turn-items) r 0) (pos 0) ≡ pos (place_of l.side (λ j. pointwise g.T.PartialEq.eq (run 1 l.items j) (run 1 l.cells (get_or (map place_in l.turn-items) r 0))) (length l.items));
}
