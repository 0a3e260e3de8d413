use Rattle.std.proofs.Common.{◌≡◌, nat_eq, get_or}
use Rattle.std.specs.List.{filter, range_with_len}
use Rattle.j_cuts_key.proofs.frets.places_of.Given as goal

abbrev pub invariant-loop-k : goal.invariant-loop-k
invariant-loop-k l = l.places.items ≡ filter (λ k. nat_eq l.sought (get_or l.text k 0)) (range_with_len 0 l.k)
