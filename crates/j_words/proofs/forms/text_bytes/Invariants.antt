use Rattle.std.proofs.Common.{length, drop, ◌-◌, ◌≡◌, ◌≤◌}
use Rattle.j_words.specs.Forms.{further, text_bytes}
use Rattle.j_words.proofs.forms.text_bytes.Given as goal

abbrev pub invariant-loop-before : goal.invariant-loop-before
invariant-loop-before l = record {
  within : l.place ≤ length l.bytes;
  same : further l.place (text_bytes (drop l.place l.bytes)) ≡ text_bytes l.bytes;
}

abbrev pub decreases-loop-before : goal.decreases-loop-before
decreases-loop-before l = length l.bytes - l.place
