use Rattle.std.proofs.Common.{◌≡◌, map, pos}
use Prim.Native.Nat.{suc}
use Rattle.std.specs.List.{range_with_len}
use Rattle.j_definitions.specs.Array.{number}
use Rattle.j_select.proofs.reaching.all_places.Given as goal

abbrev pub invariant-loop-k : goal.invariant-loop-k
invariant-loop-k l = map number l.places.items ≡ map (λ k. number (pos (suc k))) (range_with_len 0 l.k)
