use Rattle.std.proofs.Common.{◌≡◌, ◌≤◌, ◌-◌, length, drop}
use Rattle.j_words.specs.Lines.{formed, Lie}
use Rattle.j_words.proofs.Steps.{onto}
use Rattle.j_words.proofs.line.form.Given as goal

abbrev pub invariant-words : goal.invariant-words
invariant-words l = record {
  lie : Lie 0 l.at l.found.items;
  within : l.at ≤ length l.line;
  same : onto l.found.items (formed l.reading l.at 0 (drop l.at l.line)) ≡ formed l.reading 0 0 l.line;
}

abbrev pub decreases-words : goal.decreases-words
decreases-words l = length l.line - l.at
