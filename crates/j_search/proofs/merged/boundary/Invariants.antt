use Rattle.std.proofs.Common.{◌≡◌, ◌<◌, ℕ, true}
use Rattle.j_search.specs.Packed.{word_before}
use Rattle.j_search.proofs.merged.boundary.Given as goal

abbrev pub invariant-loop-at : goal.invariant-loop-at
invariant-loop-at l = (s : ℕ) → s < l.at → word_before l.side l.words l.far s ≡ true
