use Rattle.std.proofs.Common.{◌≡◌, false, get_or}
use Rattle.std.specs.List.{filter, range_with_len}
use Rattle.j_cuts_key.proofs.frets.marked.Given as goal

abbrev pub invariant-loop-k : goal.invariant-loop-k
invariant-loop-k l = l.places.items ≡ filter (λ k. get_or l.marks k false) (range_with_len 0 l.k)
