use Rattle.std.proofs.Common.{◌≡◌, length}
use Rattle.j_trials_words.proofs.nouns.boxes_of.Given as goal

abbrev pub invariant-loop-n : goal.invariant-loop-n
invariant-loop-n l = length l.nouns.items ≡ l.n
