use Rattle.std.proofs.Common.{◌≡◌, ◌+◌, drop}
use Rattle.j_words.specs.Names.{double_at}
use Rattle.j_words.proofs.names.double_at.Given as goal

abbrev pub invariant-loop-place : goal.invariant-loop-place
invariant-loop-place l = l.place + double_at (drop l.place l.name) ≡ double_at l.name
