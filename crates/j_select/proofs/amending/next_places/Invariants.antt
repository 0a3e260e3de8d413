use Rattle.std.proofs.Common.{◌≡◌, map, take}
use Prim.Native.Nat.{suc}
use Rattle.j_select.proofs.amending.next_places.Given as goal

abbrev pub invariant-loop-k : goal.invariant-loop-k
invariant-loop-k l = l.out.items ≡ map (λ k. suc k) (take l.k-index l.places)
