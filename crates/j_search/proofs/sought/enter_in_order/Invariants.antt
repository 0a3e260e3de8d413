use Rattle.std.proofs.Common.{◌≡◌, ◌<◌, ◌≤◌, ℕ, true, pos, length, get_or}
use Rattle.std.specs.Cmp.Lexicographic.{pointwise}
use Rattle.j_search.specs.Searched.{run_before}
use Rattle.j_search.specs.Sought.{run, place_of}
use Rattle.j_search.proofs.sought.enter_in_order.Given as goal

abbrev pub invariant-loop-k : goal.invariant-loop-k
invariant-loop-k g l = record {
  wide : length l.places.items ≡ length l.turns;
  within : l.before ≤ length l.order;
  front : (r : ℕ) → l.k-index ≤ r → r < length l.turns → (s : ℕ) → s < l.before → run_before l.side g.T.Ord.cmp l.size l.items (run l.size l.cells (get_or l.turns r 0)) l.order s ≡ true;
  there : (r : ℕ) → r < l.k-index → get_or l.places.items (get_or l.turns r 0) (pos 0) ≡ pos (place_of l.side (λ j. pointwise g.T.PartialEq.eq (run l.size l.items j) (run l.size l.cells (get_or l.turns r 0))) (length l.order));
}
