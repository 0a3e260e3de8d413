use Rattle.std.proofs.Common.{◌≡◌, ℕ, ◌<◌, false, get_or}
use Rattle.j_numbers.specs.Numbers.{is_mark}
use Rattle.j_numbers.proofs.part.first_mark.Given as goal

abbrev pub invariant-loop-place : goal.invariant-loop-place
invariant-loop-place l = (k : ℕ) → k < l.place → is_mark (get_or l.part k 0) ≡ false
