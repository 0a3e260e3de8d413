use Rattle.std.proofs.Common.{◌≡◌, ◌*◌, drop}
use Rattle.std.specs.Cmp.Lexicographic.{pointwise}
use Rattle.std.specs.Ordering.{int_eq}
use Rattle.j_noun.proofs.blocks.equal_blocks.Given as goal

abbrev pub invariant-loop-k : goal.invariant-loop-k
invariant-loop-k l = pointwise int_eq l.x l.y ≡ pointwise int_eq (drop (l.k * 4096) l.x) (drop (l.k * 4096) l.y)
