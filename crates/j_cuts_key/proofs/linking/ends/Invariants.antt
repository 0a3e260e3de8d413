use Rattle.std.proofs.Common.{◌≡◌, replicate}
use Rattle.j_cuts_key.proofs.linking.ends.Given as goal

abbrev pub invariant-loop : goal.invariant-loop
invariant-loop l = l.out.items ≡ replicate l.counter l.count
