use Rattle.std.proofs.Common.{◌≡◌, ◌+◌, ◌*◌, length, map, take}
use Rattle.std.specs.List.{flat_map, range_with_len}
use Rattle.j_definitions.specs.Array.{level, greatest_level, boxed}
use Rattle.j_display.specs.Rows.{padded, noun_rows}
use Rattle.j_display.specs.Blocks.{extended}
use Rattle.j_display.specs.Measured.{noun_sizes}
use Rattle.j_display.proofs.Paints.{first_boxes, first_lines}
use Rattle.j_display.proofs.paint.+paint.Given as goal

abbrev pub decreases-paint : goal.decreases-paint
decreases-paint l = 3 * level l.y.now + 2

abbrev pub decreases-paint_boxes : goal.decreases-paint_boxes
decreases-paint_boxes l = 3 * greatest_level (map boxed l.contents.now) + 1

abbrev pub decreases-paint_line : goal.decreases-paint_line
decreases-paint_line l = 3 * greatest_level (map boxed l.contents.now)

abbrev pub invariant-paint_line-loop-j : goal.invariant-paint_line-loop-j
invariant-paint_line-loop-j l = record {
  next : l.next ≡ l.from.next + length (flat_map noun_sizes (take l.j l.contents));
  canvas : l.canvas ≡ extended l.fn.canvas l.from.row (map (first_boxes l.widths (map noun_rows l.contents) l.j) (range_with_len 0 l.height));
}

abbrev pub invariant-paint_boxes-loop-k : goal.invariant-paint_boxes-loop-k
invariant-paint_boxes-loop-k l = record {
  next : l.at.next ≡ l.fn.from.next + length (flat_map noun_sizes (take (l.k * l.columns) l.contents));
  row : l.at.row ≡ l.fn.from.row + length (first_lines l.grid.frame.now l.grid.widths.now (map noun_rows l.contents) l.k);
  canvas : l.canvas ≡ extended l.fn.canvas l.fn.from.row (map (padded l.width) (first_lines l.grid.frame.now l.grid.widths.now (map noun_rows l.contents) l.k));
}
