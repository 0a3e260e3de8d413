use Rattle.std.proofs.Common.{rules, arith, ◌≡◌, ◌+◌, ◌*◌, ◌∷◌, length, map, sym, ap, ◌∙◌}
use Rattle.j_definitions.specs.Array.{product}
use Rattle.j_display.specs.Rows.{padded}
use Rattle.j_display.specs.Blocks.{extended}
use Rattle.j_display.specs.Lines.{row_at, rows_from}
use Rattle.j_display.proofs.Stacking.{first_items, items_all}
use Rattle.j_display.proofs.LineRows.{fewer_lines, after_item, item_ends}
use Rattle.j_display.proofs.Items.{item_row, item_canvas, none_painted}
use Rattle.j_display.proofs.leaves.+paint_lines.Goals as goal

pub loop-k-init : goal.loop-k-init
loop-k-init t c = record { line = omega arith; row = omega arith; canvas = none_painted c.args.canvas.now c.args.from.row }

pub overflow_add-result : goal.overflow_add-result
overflow_add-result t c = omega (arith, c.requires.lines.counted)

pub append_to_each-requires : goal.append_to_each-requires
append_to_each-requires t c = search rules

pub paint_lines-requires : goal.paint_lines-requires
paint_lines-requires t c =
    let frame : c.args.frame.now ≡ c.in-Some.n.now ∷ c.in-Some.item.now = search rules in
    let whole : product c.args.frame.now ≡ c.in-Some.n.now * product c.in-Some.item.now = ap product frame in
    let ends = item_ends c.in-Some.n.now c.args.from.line c.loop-k.k (product c.in-Some.item.now) c.loop-k.next.line c.loop-k-test.true c.loop-k.invariant.line in
    (search rules, (fewer_lines c.args.lines _ _ c.requires.lines (omega arith), λ k h. c.requires.size k (omega arith)))

pub loop-k-preserved : goal.loop-k-preserved
loop-k-preserved t c =
    let row : c.in_ok-row-2.row ≡ c.loop-k.next.row + c.between-gap.result = c.in_ok-row-2.ensures in
    record {
      line = c.in_ok-next.ensures.line ∙ after_item c.args.from.line c.loop-k.k (product c.in-Some.item.now) c.loop-k.next.line c.loop-k.invariant.line;
      row =
          item_row c.in-Some.item.now (row_at c.args.lines) c.args.from.line c.loop-k.k c.loop-k.next.line c.args.from.row c.loop-k.next.row c.in_ok-row-2.row c.in_ok-next.next.row c.between-gap.result
          c.loop-k.invariant.line c.loop-k.invariant.row c.between-gap.ensures row c.in_ok-next.ensures.row;
      canvas =
          item_canvas c.in-Some.item.now (row_at c.args.lines) c.args.from.line c.loop-k.k c.loop-k.next.line c.args.from.row c.loop-k.next.row c.in_ok-row-2.row c.between-gap.result c.args.width c.args.canvas.now c.loop-k.canvas
          c.append_to_each.new.self c.paint_lines.new.canvas c.loop-k.invariant.line c.loop-k.invariant.row c.between-gap.ensures row c.loop-k.invariant.canvas c.in_ok-append_to_each.ensures c.in_ok-next.ensures.canvas;
    }

pub returns-clause-row : goal.returns-clause-row
returns-clause-row t c =
    let frame : c.args.frame.now ≡ c.in-Some.n.now ∷ c.in-Some.item.now = search rules in
    let ended : c.loop-k.k ≡ c.in-Some.n.now = omega arith in
    c.loop-k.invariant.row ∙ ap (λ m. c.args.from.row + length (first_items c.in-Some.item.now (row_at c.args.lines) c.args.from.line m)) ended
    ∙ ap (λ rows. c.args.from.row + length rows) (items_all c.in-Some.n.now c.in-Some.item.now (row_at c.args.lines) c.args.from.line) ∙ ap (λ s. c.args.from.row + length (rows_from s c.args.lines c.args.from.line)) (sym frame)

pub returns-clause-canvas : goal.returns-clause-canvas
returns-clause-canvas t c =
    let frame : c.args.frame.now ≡ c.in-Some.n.now ∷ c.in-Some.item.now = search rules in
    let ended : c.loop-k.k ≡ c.in-Some.n.now = omega arith in
    c.loop-k.invariant.canvas ∙ ap (λ m. extended c.args.canvas.now c.args.from.row (map (padded c.args.width) (first_items c.in-Some.item.now (row_at c.args.lines) c.args.from.line m))) ended
    ∙ ap (λ rows. extended c.args.canvas.now c.args.from.row (map (padded c.args.width) rows)) (items_all c.in-Some.n.now c.in-Some.item.now (row_at c.args.lines) c.args.from.line)
    ∙ ap (λ s. extended c.args.canvas.now c.args.from.row (map (padded c.args.width) (rows_from s c.args.lines c.args.from.line))) (sym frame)
