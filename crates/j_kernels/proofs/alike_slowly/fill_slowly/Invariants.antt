use Rattle.std.proofs.Common.{◌≡◌, map, cond}
use Rattle.std.specs.List.{range_with_len}
use Rattle.j_noun.specs.Viewed.{viewed}
use Rattle.j_kernels.proofs.Storage.{said_at}
use Rattle.j_kernels.proofs.alike_slowly.fill_slowly.Given as goal

abbrev pub invariant-loop-k : goal.invariant-loop-k
invariant-loop-k g l = l.out.items ≡ map (λ k. cond (said_at g.L.Likeness.said l.left l.right (viewed l.x) (viewed l.y) k) 1 0) (range_with_len 0 l.k)
