use Rattle.std.proofs.Common.{◌≡◌}
use Rattle.std.specs.List.{filter, range_with_len}
use Rattle.j_reshaping.specs.Axes.{is_other}
use Rattle.j_reshaping.proofs.transposing.order_of.Given as goal

abbrev pub invariant-loop-a : goal.invariant-loop-a
invariant-loop-a l = l.order.items ≡ filter (is_other l.axes) (range_with_len 0 l.a)
