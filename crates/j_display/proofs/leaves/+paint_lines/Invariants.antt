use Rattle.std.proofs.Common.{◌≡◌, ◌+◌, ◌*◌, length, map}
use Rattle.j_definitions.specs.Array.{product}
use Rattle.j_display.specs.Rows.{padded}
use Rattle.j_display.specs.Lines.{row_at}
use Rattle.j_display.specs.Blocks.{extended}
use Rattle.j_display.proofs.Stacking.{first_items}
use Rattle.j_display.proofs.leaves.+paint_lines.Given as goal

abbrev pub decreases-paint_lines : goal.decreases-paint_lines
decreases-paint_lines l = length l.frame.now

abbrev pub invariant-loop-k : goal.invariant-loop-k
invariant-loop-k l = record {
  line : l.next.line ≡ l.fn.from.line + l.k * product l.item;
  row : l.next.row ≡ l.fn.from.row + length (first_items l.item (row_at l.lines) l.fn.from.line l.k);
  canvas : l.canvas ≡ extended l.fn.canvas l.fn.from.row (map (padded l.width) (first_items l.item (row_at l.lines) l.fn.from.line l.k));
}
