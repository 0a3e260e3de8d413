use Rattle.std.proofs.Common.{◌≡◌, ◌++◌, length}
use Rattle.std.specs.List.{flat_map, range_with_len}
use Rattle.j_definitions.specs.Array.{product}
use Rattle.j_rank.specs.Assembly.{padded}
use Rattle.j_rank.proofs.Paddings.{part}
use Rattle.j_rank.proofs.padding.+append_padded.Given as goal

abbrev pub decreases-append_padded : goal.decreases-append_padded
decreases-append_padded g l = length l.from.now

abbrev pub invariant-loop-k : goal.invariant-loop-k
invariant-loop-k g l =
    l.out.items ≡ l.fn.out.items ++ flat_map (λ k. padded l.fill l.from_item l.to_item (part (product l.from_item) l.all k)) (range_with_len 0 l.k)
