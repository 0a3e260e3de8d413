use Rattle.std.proofs.Common.{arith, rules, ℕ, List, ◌≡◌, ◌≢◌, ◌<◌, ◌≤◌, ◌+◌, ◌-◌, ◌*◌, ◌++◌, [], length, map, take, drop, get_or, refl, subst, sym, ap, ◌∙◌}
use Rattle.std.specs.List.{flat_map, range_with_len}
use Rattle.std.proofs.lemmas.List.{length-map, length-append, take_all}
use Rattle.j_definitions.specs.Array.{Array, boxed, level}
use Rattle.j_definitions.specs.declared.Kind.TheVariants.{Boxed}
use Rattle.j_definitions.proofs.Laws.{level_falls}
use Rattle.j_noun.specs.Viewed.{viewed, kind_viewed}
use Rattle.j_display.specs.Rows.{padded, rows_without_atoms, line_frame, line_length, lines_stacked, box_row, box_rows, noun_rows}
use Rattle.j_display.specs.Blocks.{extended}
use Rattle.j_display.specs.Measured.{own_sizes, noun_sizes, StandAt, grid_of}
use Rattle.j_display.specs.declared.paint.Grid.{Grid}
use Rattle.j_display.proofs.Contents.{boxes_level, part_level, boxed_rows, boxed_sizes, leaf_rows, leaf_sizes, no_rows, no_sizes, if_ok, on_ok}
use Rattle.j_display.proofs.Own.{flat_more}
use Rattle.j_display.proofs.Paints.{line_begun, line_more, line_ended, stand_first, stand_rest}
use Rattle.j_display.proofs.Steps.{stand_one, rows_at, rows_within, next_line, line_ends, line_asked, lines_first, lines_last, grid_canvas, grid_row, lines_all}
use Rattle.j_display.proofs.Items.{none_painted}
use Rattle.j_display.proofs.paint.+paint.Goals as goal

pub paint_line-loop-j-init : goal.paint_line-loop-j-init
paint_line-loop-j-init t c = record {
  next = omega arith;
  canvas = c.in_ok-append_to_each.ensures ∙ line_begun c.args.widths.now (map noun_rows c.args.contents.now) c.args.canvas.now c.args.from.row c.args.height;
}

pub paint_line-paint-requires : goal.paint_line-paint-requires
paint_line-paint-requires t c =
    let cs : List Array = c.args.contents.now in
    let j : ℕ = c.loop-j.j in
    let y : Array = c.index-contents-j.result in
    let less : j < length cs = omega (arith, c.requires.same) in
    let item : y ≡ get_or cs j y = c.index-contents-j.is in
    let below = level_falls cs j y less in
    let same : level (get_or cs j y) ≡ level y = ap level (sym item) in
    let h = c.decreases in
    let P : List ℕ → Type 0 = λ own. StandAt c.args.sizes.now c.loop-j.next own in
    (omega arith, subst P (ap noun_sizes (sym item)) (stand_one noun_sizes cs c.args.sizes.now c.args.from.next c.loop-j.next j y less c.loop-j.invariant.next c.requires.sizes))

pub paint_line-close_box-requires : goal.paint_line-close_box-requires
paint_line-close_box-requires t c =
    let cs : List Array = c.args.contents.now in
    let j : ℕ = c.loop-j.j in
    let y : Array = c.index-contents-j.result in
    let less : j < length cs = omega (arith, c.requires.same) in
    let item : y ≡ get_or cs j y = c.index-contents-j.is in
    omega (arith, rows_within cs j y less, ap (λ z. length (noun_rows z)) item, c.in_ok-end.ensures.row, c.requires.height)

pub paint_line-loop-j-preserved : goal.paint_line-loop-j-preserved
paint_line-loop-j-preserved t c =
    let cs : List Array = c.args.contents.now in
    let j : ℕ = c.loop-j.j in
    let y : Array = c.index-contents-j.result in
    let less : j < length cs = omega (arith, c.requires.same) in
    let item : y ≡ get_or cs j y = c.index-contents-j.is in
    let rows : get_or (map noun_rows cs) j [] ≡ noun_rows y = rows_at cs j y less ∙ ap noun_rows (sym item) in
    let fit : length (noun_rows y) ≤ c.args.height = omega (arith, rows_within cs j y less, ap (λ z. length (noun_rows z)) item, c.requires.height) in
    let same : length c.args.widths.now ≡ length (map noun_rows cs) = sym c.requires.same ∙ sym (length-map cs noun_rows) in
    record {
      next = omega (arith, ap length (flat_more noun_sizes cs j y less), length-append (flat_map noun_sizes (take j cs)) (noun_sizes (get_or cs j y)), ap (λ z. length (noun_sizes z)) item, c.in_ok-end.ensures.next, c.loop-j.invariant.next);
      canvas =
          line_more c.args.widths.now (map noun_rows cs) c.args.canvas.now c.loop-j.canvas c.paint.new.canvas c.close_box.new.canvas (noun_rows y) c.args.from.row c.args.height (get_or c.args.widths.now j 0) c.in_ok-end.end.row j
          same c.loop-j-test.true refl rows c.loop-j.invariant.canvas c.in_ok-end.ensures.canvas c.in_ok-close_box.ensures c.in_ok-end.ensures.row fit;
    }

pub paint_line-returns-clause-next : goal.paint_line-returns-clause-next
paint_line-returns-clause-next t c =
    let cs : List Array = c.args.contents.now in
    let all : length cs ≤ c.loop-j.j = omega (arith, c.requires.same) in
    c.loop-j.invariant.next ∙ ap (λ ys. c.args.from.next + length (flat_map noun_sizes ys)) (take_all c.loop-j.j cs all)

pub paint_line-returns-clause-canvas : goal.paint_line-returns-clause-canvas
paint_line-returns-clause-canvas t c =
    let cs : List Array = c.args.contents.now in
    let same : length c.args.widths.now ≡ length (map noun_rows cs) = sym c.requires.same ∙ sym (length-map cs noun_rows) in
    line_ended c.args.widths.now (map noun_rows cs) c.args.canvas.now c.loop-j.canvas c.args.from.row c.args.height c.loop-j.j same (omega arith) c.loop-j.invariant.canvas

pub paint_boxes-loop-k-init : goal.paint_boxes-loop-k-init
paint_boxes-loop-k-init t c = record { next = lines_first c.args.contents.now (length c.args.grid.widths.now) c.args.from.next; row = omega arith; canvas = none_painted c.args.canvas.now c.args.from.row }

pub paint_boxes-overflow_mul-first : goal.paint_boxes-overflow_mul-first
paint_boxes-overflow_mul-first t c =
    let g : Grid = c.args.grid in
    let cs : List Array = c.args.contents.now in
    let n : ℕ = length g.widths.now in
    let k : ℕ = c.loop-k.k in
    let ends = line_ends g cs k c.requires.grid c.loop-k-test.true in
    let few = c.requires.grid.atoms in
    omega (arith, length-map cs noun_rows)

pub paint_boxes-overflow_add-line : goal.paint_boxes-overflow_add-line
paint_boxes-overflow_add-line t c =
    let g : Grid = c.args.grid in
    let cs : List Array = c.args.contents.now in
    let n : ℕ = length g.widths.now in
    let k : ℕ = c.loop-k.k in
    let ends = line_ends g cs k c.requires.grid c.loop-k-test.true in
    let few = c.requires.grid.atoms in
    omega (arith, length-map cs noun_rows)

pub paint_boxes-offset_bounds-contents-first : goal.paint_boxes-offset_bounds-contents-first
paint_boxes-offset_bounds-contents-first t c =
    let g : Grid = c.args.grid in
    let cs : List Array = c.args.contents.now in
    let n : ℕ = length g.widths.now in
    let k : ℕ = c.loop-k.k in
    let ends = line_ends g cs k c.requires.grid c.loop-k-test.true in
    let few = c.requires.grid.atoms in
    omega (arith, length-map cs noun_rows)

pub paint_boxes-slice_bounds-line-end : goal.paint_boxes-slice_bounds-line-end
paint_boxes-slice_bounds-line-end t c =
    let g : Grid = c.args.grid in
    let cs : List Array = c.args.contents.now in
    let n : ℕ = length g.widths.now in
    let k : ℕ = c.loop-k.k in
    let ends = line_ends g cs k c.requires.grid c.loop-k-test.true in
    search rules

pub paint_boxes-paint_line-requires : goal.paint_boxes-paint_line-requires
paint_boxes-paint_line-requires t c =
    let g : Grid = c.args.grid in
    let cs : List Array = c.args.contents.now in
    let n : ℕ = length g.widths.now in
    let k : ℕ = c.loop-k.k in
    let m : k * n + n - k * n ≡ n = omega arith in
    let asked = line_asked g cs k (k * n + n - k * n) c.args.from.next c.loop-k.at.next c.args.sizes.now c.requires.grid c.loop-k-test.true m c.loop-k.invariant.next c.requires.sizes in
    let below = part_level cs (k * n) (k * n + n - k * n) in
    let h = c.decreases in
    (omega arith, (asked.0, (asked.1, asked.2)))

pub paint_boxes-loop-k-preserved : goal.paint_boxes-loop-k-preserved
paint_boxes-loop-k-preserved t c =
    let g : Grid = c.args.grid in
    let cs : List Array = c.args.contents.now in
    let n : ℕ = length g.widths.now in
    let k : ℕ = c.loop-k.k in
    let m : k * n + n - k * n ≡ n = omega arith in
    let part : take (k * n + n - k * n) (drop (k * n) cs) ≡ take n (drop (k * n) cs) = ap (λ i. take i (drop (k * n) cs)) m in
    record {
      next = next_line cs k n c.args.from.next c.loop-k.at.next c.in_ok-next.next c.loop-k.invariant.next (c.in_ok-next.ensures.next ∙ ap (λ ys. c.loop-k.at.next + length (flat_map noun_sizes ys)) part);
      row =
          grid_row g cs k c.args.from.row c.loop-k.at.row c.in_ok-row.row c.in_ok-row-2.row (get_or g.heights.now k 0) c.requires.grid c.loop-k-test.true c.loop-k.invariant.row c.in_ok-row.ensures.row c.in_ok-row-2.ensures.row refl;
      canvas =
          grid_canvas g cs c.args.canvas.now c.loop-k.canvas c.paint_above.new.canvas c.paint_line.new.canvas c.close_line.new.canvas k c.args.from.row c.loop-k.at.row c.in_ok-row.row (get_or g.heights.now k 0) c.in_ok-size.size c.args.width
          c.requires.grid c.loop-k-test.true c.loop-k.invariant.canvas c.loop-k.invariant.row c.in_ok-row.ensures.canvas c.in_ok-row.ensures.row
          (c.in_ok-next.ensures.canvas ∙ ap (λ ys. extended c.paint_above.new.canvas c.in_ok-row.row (map (box_row g.widths.now (map noun_rows ys)) (range_with_len 0 (get_or g.heights.now k 0)))) part)
          c.in_ok-row-2.ensures.canvas c.in_ok-size.ensures refl;
    }

pub paint_boxes-returns-clause-next : goal.paint_boxes-returns-clause-next
paint_boxes-returns-clause-next t c =
    let g : Grid = c.args.grid in
    let cs : List Array = c.args.contents.now in
    let n : ℕ = length g.widths.now in
    let k : ℕ = c.loop-k.k in
    let ended : k ≡ length g.heights.now = omega arith in
    c.loop-k.invariant.next ∙ ap (λ ys. c.args.from.next + length (flat_map noun_sizes ys)) (lines_last g cs k c.requires.grid ended)

pub paint_boxes-returns-clause-row : goal.paint_boxes-returns-clause-row
paint_boxes-returns-clause-row t c =
    let g : Grid = c.args.grid in
    let cs : List Array = c.args.contents.now in
    let n : ℕ = length g.widths.now in
    let k : ℕ = c.loop-k.k in
    let ended : k ≡ length g.heights.now = omega arith in
    c.loop-k.invariant.row ∙ ap (λ rows. c.args.from.row + length rows) (lines_all g cs k c.requires.grid ended)

pub paint_boxes-returns-clause-canvas : goal.paint_boxes-returns-clause-canvas
paint_boxes-returns-clause-canvas t c =
    let g : Grid = c.args.grid in
    let cs : List Array = c.args.contents.now in
    let n : ℕ = length g.widths.now in
    let k : ℕ = c.loop-k.k in
    let ended : k ≡ length g.heights.now = omega arith in
    c.loop-k.invariant.canvas ∙ ap (λ rows. extended c.args.canvas.now c.args.from.row (map (padded c.args.width) rows)) (lines_all g cs k c.requires.grid ended)

pub paint-grid_at-grid-requires-clause-sizes : goal.paint-grid_at-grid-requires-clause-sizes
paint-grid_at-grid-requires-clause-sizes t c =
    let y : Array = c.args.y.now in
    let cs : List Array = c.in-Boxes.contents.now in
    let s : List ℕ = c.axes-in-Boxes.result.now in
    let some : 0 < length cs = omega (arith, c.view_len.ensures ∙ ap (λ v. length (viewed v)) c.in-Boxes.is ∙ length-map cs boxed) in
    let rows : box_rows s (map noun_rows cs) ≡ noun_rows y = ap (λ t. box_rows t (map noun_rows cs)) c.axes-in-Boxes.ensures.value ∙ sym (boxed_rows y cs (sym c.in-Boxes.ensures.kind) (sym c.in-Boxes.ensures.atoms) some) in
    let sizes : own_sizes s (map noun_rows cs) ++ flat_map noun_sizes cs ≡ noun_sizes y =
    ap (λ t. own_sizes t (map noun_rows cs) ++ flat_map noun_sizes cs) c.axes-in-Boxes.ensures.value ∙ sym (boxed_sizes y cs (sym c.in-Boxes.ensures.kind) (sym c.in-Boxes.ensures.atoms) some) in
    let P : List ℕ → Type 0 = λ own. StandAt c.args.sizes.now c.args.from.next own in
    let stands : StandAt c.args.sizes.now c.args.from.next (own_sizes s (map noun_rows cs) ++ flat_map noun_sizes cs) = subst P (sym sizes) c.requires.sizes in
    stand_first c.args.sizes.now c.args.from.next (own_sizes s (map noun_rows cs)) (flat_map noun_sizes cs) stands

pub paint-paint_boxes-requires : goal.paint-paint_boxes-requires
paint-paint_boxes-requires t c =
    let y : Array = c.args.y.now in
    let cs : List Array = c.in-Boxes.contents.now in
    let s : List ℕ = c.axes-in-Boxes.result.now in
    let some : 0 < length cs = omega (arith, c.view_len.ensures ∙ ap (λ v. length (viewed v)) c.in-Boxes.is ∙ length-map cs boxed) in
    let rows : box_rows s (map noun_rows cs) ≡ noun_rows y = ap (λ t. box_rows t (map noun_rows cs)) c.axes-in-Boxes.ensures.value ∙ sym (boxed_rows y cs (sym c.in-Boxes.ensures.kind) (sym c.in-Boxes.ensures.atoms) some) in
    let sizes : own_sizes s (map noun_rows cs) ++ flat_map noun_sizes cs ≡ noun_sizes y =
    ap (λ t. own_sizes t (map noun_rows cs) ++ flat_map noun_sizes cs) c.axes-in-Boxes.ensures.value ∙ sym (boxed_sizes y cs (sym c.in-Boxes.ensures.kind) (sym c.in-Boxes.ensures.atoms) some) in
    let P : List ℕ → Type 0 = λ own. StandAt c.args.sizes.now c.args.from.next own in
    let stands : StandAt c.args.sizes.now c.args.from.next (own_sizes s (map noun_rows cs) ++ flat_map noun_sizes cs) = subst P (sym sizes) c.requires.sizes in
    let h = c.decreases in
    let same = boxes_level y cs (sym c.in-Boxes.ensures.atoms) in (
      omega arith,
      (
        c.grid_at-grid.ensures.grid,
        stand_rest c.args.sizes.now c.args.from.next (c.args.from.next + (length c.grid_at-grid.result.widths.now + length c.grid_at-grid.result.heights.now)) (own_sizes s (map noun_rows cs)) (flat_map noun_sizes cs)
            (ap (λ m. c.args.from.next + m) (sym c.grid_at-grid.ensures.sizes)) stands,
      ),
    )

pub paint-returns-in-Boxes-clause-next : goal.paint-returns-in-Boxes-clause-next
paint-returns-in-Boxes-clause-next t c =
    let y : Array = c.args.y.now in
    let cs : List Array = c.in-Boxes.contents.now in
    let s : List ℕ = c.axes-in-Boxes.result.now in
    let some : 0 < length cs = omega (arith, c.view_len.ensures ∙ ap (λ v. length (viewed v)) c.in-Boxes.is ∙ length-map cs boxed) in
    let rows : box_rows s (map noun_rows cs) ≡ noun_rows y = ap (λ t. box_rows t (map noun_rows cs)) c.axes-in-Boxes.ensures.value ∙ sym (boxed_rows y cs (sym c.in-Boxes.ensures.kind) (sym c.in-Boxes.ensures.atoms) some) in
    let sizes : own_sizes s (map noun_rows cs) ++ flat_map noun_sizes cs ≡ noun_sizes y =
    ap (λ t. own_sizes t (map noun_rows cs) ++ flat_map noun_sizes cs) c.axes-in-Boxes.ensures.value ∙ sym (boxed_sizes y cs (sym c.in-Boxes.ensures.kind) (sym c.in-Boxes.ensures.atoms) some) in
    if_ok (λ p. p.next ≡ c.args.from.next + (length c.grid_at-grid.result.widths.now + length c.grid_at-grid.result.heights.now) + length (flat_map noun_sizes cs)) (λ p. p.next ≡ c.args.from.next + length (noun_sizes y)) c.paint_boxes.result
    (λ p h. omega (arith, ap length sizes, length-append (own_sizes s (map noun_rows cs)) (flat_map noun_sizes cs), c.grid_at-grid.ensures.sizes, h)) c.paint_boxes.ensures.next

pub paint-returns-in-Boxes-clause-row : goal.paint-returns-in-Boxes-clause-row
paint-returns-in-Boxes-clause-row t c =
    let y : Array = c.args.y.now in
    let cs : List Array = c.in-Boxes.contents.now in
    let s : List ℕ = c.axes-in-Boxes.result.now in
    let some : 0 < length cs = omega (arith, c.view_len.ensures ∙ ap (λ v. length (viewed v)) c.in-Boxes.is ∙ length-map cs boxed) in
    let rows : box_rows s (map noun_rows cs) ≡ noun_rows y = ap (λ t. box_rows t (map noun_rows cs)) c.axes-in-Boxes.ensures.value ∙ sym (boxed_rows y cs (sym c.in-Boxes.ensures.kind) (sym c.in-Boxes.ensures.atoms) some) in
    let sizes : own_sizes s (map noun_rows cs) ++ flat_map noun_sizes cs ≡ noun_sizes y =
    ap (λ t. own_sizes t (map noun_rows cs) ++ flat_map noun_sizes cs) c.axes-in-Boxes.ensures.value ∙ sym (boxed_sizes y cs (sym c.in-Boxes.ensures.kind) (sym c.in-Boxes.ensures.atoms) some) in
    if_ok (λ p. p.row ≡ c.args.from.row + length (grid_of c.grid_at-grid.result (map noun_rows cs))) (λ p. p.row ≡ c.args.from.row + length (noun_rows y)) c.paint_boxes.result
    (λ p h. h ∙ ap (λ r. c.args.from.row + length r) (c.grid_at-grid.ensures.rows ∙ rows)) c.paint_boxes.ensures.row

pub paint-returns-in-Boxes-clause-canvas : goal.paint-returns-in-Boxes-clause-canvas
paint-returns-in-Boxes-clause-canvas t c =
    let y : Array = c.args.y.now in
    let cs : List Array = c.in-Boxes.contents.now in
    let s : List ℕ = c.axes-in-Boxes.result.now in
    let some : 0 < length cs = omega (arith, c.view_len.ensures ∙ ap (λ v. length (viewed v)) c.in-Boxes.is ∙ length-map cs boxed) in
    let rows : box_rows s (map noun_rows cs) ≡ noun_rows y = ap (λ t. box_rows t (map noun_rows cs)) c.axes-in-Boxes.ensures.value ∙ sym (boxed_rows y cs (sym c.in-Boxes.ensures.kind) (sym c.in-Boxes.ensures.atoms) some) in
    let sizes : own_sizes s (map noun_rows cs) ++ flat_map noun_sizes cs ≡ noun_sizes y =
    ap (λ t. own_sizes t (map noun_rows cs) ++ flat_map noun_sizes cs) c.axes-in-Boxes.ensures.value ∙ sym (boxed_sizes y cs (sym c.in-Boxes.ensures.kind) (sym c.in-Boxes.ensures.atoms) some) in
    on_ok (c.paint_boxes.new.canvas ≡ extended c.args.canvas.now c.args.from.row (map (padded c.args.width) (grid_of c.grid_at-grid.result (map noun_rows cs))))
    (c.paint_boxes.new.canvas ≡ extended c.args.canvas.now c.args.from.row (map (padded c.args.width) (noun_rows y))) c.paint_boxes.result
    (λ h. h ∙ ap (λ r. extended c.args.canvas.now c.args.from.row (map (padded c.args.width) r)) (c.grid_at-grid.ensures.rows ∙ rows)) c.paint_boxes.ensures.canvas

pub paint-returns-in_ok-row-in-Wholes : goal.paint-returns-in_ok-row-in-Wholes
paint-returns-in_ok-row-in-Wholes t c =
    let y : Array = c.args.y.now in
    let nb : kind_viewed c.view-atoms.result ≢ Boxed = search rules in
    let some : 0 < length (viewed c.view-atoms.result) = omega (arith, c.view_len.ensures) in
    let rows : lines_stacked (kind_viewed c.view-atoms.result) (line_frame c.axes-in-Wholes.result.now) (line_length c.axes-in-Wholes.result.now) (viewed c.view-atoms.result) ≡ noun_rows y =
    ap (λ s. lines_stacked (kind_viewed c.view-atoms.result) (line_frame s) (line_length s) (viewed c.view-atoms.result)) c.axes-in-Wholes.ensures.value
    ∙ sym (leaf_rows y (kind_viewed c.view-atoms.result) (viewed c.view-atoms.result) c.view-atoms.ensures.kind c.view-atoms.ensures.atoms nb some) in
    record {
      next = omega (arith, ap length (leaf_sizes y (kind_viewed c.view-atoms.result) c.view-atoms.ensures.kind nb));
      row = c.in_ok-row-in-Wholes.ensures.row ∙ ap (λ r. c.args.from.row + length r) rows;
      canvas = c.in_ok-row-in-Wholes.ensures.canvas ∙ ap (λ r. extended c.args.canvas.now c.args.from.row (map (padded c.args.width) r)) rows;
    }

pub paint-returns-then-view_len-eq0-clause-next : goal.paint-returns-then-view_len-eq0-clause-next
paint-returns-then-view_len-eq0-clause-next t c =
    let y : Array = c.args.y.now in
    let h : length y.atoms ≡ 0 = ap length (sym c.view-atoms.ensures.atoms) ∙ sym c.view_len.ensures ∙ c.if-view_len-eq0.true in
    let rows : rows_without_atoms c.axes.result.now ≡ noun_rows y = ap rows_without_atoms c.axes.ensures.value ∙ sym (no_rows y h) in
    omega (arith, ap length (no_sizes y h))

pub paint-returns-then-view_len-eq0-clause-row : goal.paint-returns-then-view_len-eq0-clause-row
paint-returns-then-view_len-eq0-clause-row t c =
    let y : Array = c.args.y.now in
    let h : length y.atoms ≡ 0 = ap length (sym c.view-atoms.ensures.atoms) ∙ sym c.view_len.ensures ∙ c.if-view_len-eq0.true in
    let rows : rows_without_atoms c.axes.result.now ≡ noun_rows y = ap rows_without_atoms c.axes.ensures.value ∙ sym (no_rows y h) in
    c.in_ok-row.ensures.row ∙ ap (λ r. c.args.from.row + length r) rows

pub paint-returns-then-view_len-eq0-clause-canvas : goal.paint-returns-then-view_len-eq0-clause-canvas
paint-returns-then-view_len-eq0-clause-canvas t c =
    let y : Array = c.args.y.now in
    let h : length y.atoms ≡ 0 = ap length (sym c.view-atoms.ensures.atoms) ∙ sym c.view_len.ensures ∙ c.if-view_len-eq0.true in
    let rows : rows_without_atoms c.axes.result.now ≡ noun_rows y = ap rows_without_atoms c.axes.ensures.value ∙ sym (no_rows y h) in
    c.in_ok-row.ensures.canvas ∙ ap (λ r. extended c.args.canvas.now c.args.from.row (map (padded c.args.width) r)) rows
