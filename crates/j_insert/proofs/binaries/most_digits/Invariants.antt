use Rattle.std.proofs.Common.{◌≡◌, take}
use Rattle.j_insert.specs.Digits.{most_digits}
use Rattle.j_insert.specs.Listed.{listed}
use Rattle.j_insert.proofs.binaries.most_digits.Given as goal

abbrev pub invariant-loop-k : goal.invariant-loop-k
invariant-loop-k l = l.most ≡ most_digits (take l.k (listed l.numbers))
