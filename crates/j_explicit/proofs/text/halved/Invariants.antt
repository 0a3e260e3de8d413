use Rattle.std.proofs.Common.{◌≡◌, ◌≤◌, ◌++◌, ◌-◌, length, drop}
use Rattle.j_explicit.specs.Texts.{halved}
use Rattle.j_explicit.proofs.text.halved.Given as goal

abbrev pub invariant-loop-before : goal.invariant-loop-before
invariant-loop-before l = record {
  within : l.place ≤ length l.text;
  same : l.bytes.items ++ halved (drop l.place l.text) ≡ halved l.text;
}

abbrev pub decreases-loop-before : goal.decreases-loop-before
decreases-loop-before l = length l.text - l.place
