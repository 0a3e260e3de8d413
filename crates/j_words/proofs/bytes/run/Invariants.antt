use Rattle.std.proofs.Common.{◌≡◌, ℕ, ◌<◌, true, get_or}
use Rattle.j_words.specs.Bytes.{is_in}
use Rattle.j_words.proofs.bytes.run.Given as goal

abbrev pub invariant-loop-place : goal.invariant-loop-place
invariant-loop-place l = (k : ℕ) → k < l.place → is_in l.set (get_or l.bytes k 0) ≡ true
