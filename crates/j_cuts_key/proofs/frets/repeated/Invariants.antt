use Rattle.std.proofs.Common.{◌≡◌, replicate}
use Rattle.j_cuts_key.proofs.frets.repeated.Given as goal

abbrev pub invariant-loop : goal.invariant-loop
invariant-loop l = l.marks.items ≡ replicate l.counter l.mark
