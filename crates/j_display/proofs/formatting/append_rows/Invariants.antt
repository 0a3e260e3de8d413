use Rattle.std.proofs.Common.{◌≡◌, ◌≤◌, ◌+◌, ◌*◌, ◌++◌, vec_len, vec_capacity}
use Rattle.std.specs.List.{flat_map, range_with_len}
use Rattle.j_display.specs.Lines.{row_at}
use Rattle.j_display.proofs.formatting.append_rows.Given as goal

abbrev pub invariant-loop-k : goal.invariant-loop-k
invariant-loop-k l = record {
  items : l.into.items ≡ l.fn.into.items ++ flat_map (row_at l.lines) (range_with_len 0 l.k);
  size : vec_len l.into ≡ vec_len l.fn.into + l.k * l.size;
  capacity : vec_capacity l.fn.into ≤ vec_capacity l.into;
}
