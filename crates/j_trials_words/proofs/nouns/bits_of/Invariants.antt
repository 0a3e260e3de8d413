use Rattle.std.proofs.Common.{◌≡◌, ◌<◌, length}
use Rattle.std.specs.List.{All}
use Rattle.j_trials_words.proofs.nouns.bits_of.Given as goal

abbrev pub invariant-loop-n : goal.invariant-loop-n
invariant-loop-n l = (length l.bits.items ≡ l.n-index) × All (λ b. b < 2) l.bits.items
