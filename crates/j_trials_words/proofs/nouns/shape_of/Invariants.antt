use Rattle.std.proofs.Common.{◌≡◌, take}
use Rattle.j_trials_words.proofs.nouns.shape_of.Given as goal

abbrev pub invariant-loop-n : goal.invariant-loop-n
invariant-loop-n l = l.shape ≡ take l.n-index l.axes
