use Rattle.std.proofs.Common.{◌≡◌, ◌<◌, drop, IfSome}
use Rattle.j_words.specs.Names.{last_low}
use Rattle.j_words.proofs.Scans.{later}
use Rattle.j_words.proofs.names.last_low.Given as goal

abbrev pub invariant-loop-place : goal.invariant-loop-place
invariant-loop-place l = record {
  within : IfSome l.last (λ n. n < l.place);
  same : later l.last l.place (last_low (drop l.place l.name)) ≡ last_low l.name;
}
