use Rattle.std.proofs.Common.{◌≡◌, ◌≤◌, ◌+◌, ◌*◌, ◌++◌, length, vec_capacity}
use Rattle.j_definitions.specs.Array.{product}
use Rattle.j_display.specs.Rows.{joined}
use Rattle.j_display.specs.Lines.{row_at}
use Rattle.j_display.proofs.Stacking.{first_items}
use Rattle.j_display.proofs.lines.+append_lines.Given as goal

abbrev pub decreases-append_lines : goal.decreases-append_lines
decreases-append_lines l = length l.frame.now

abbrev pub invariant-loop-k : goal.invariant-loop-k
invariant-loop-k l = record {
  next : l.next ≡ l.from + l.k * product l.item;
  items : l.into.items ≡ l.fn.into.items ++ joined (first_items l.item (row_at l.lines) l.from l.k);
  capacity : vec_capacity l.fn.into ≤ vec_capacity l.into;
}
