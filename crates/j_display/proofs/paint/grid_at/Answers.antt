use Rattle.std.proofs.Common.{arith, rules, ◌≡◌, ◌+◌, ◌-◌, take, drop, length, refl, ap}
use Rattle.j_display.proofs.Found.{AreLines, ws_of, hs_of, ws_many, hs_many, own_many, sizes_room, widths_found, heights_found, grid_found, rows_same}
use Rattle.j_display.proofs.paint.grid_at.Goals as goal

pub overflow_add-middle : goal.overflow_add-middle
overflow_add-middle c =
    let lines : AreLines c.args.axes.now c.args.contents.now c.arrange-all.result.count c.arrange-all.result.columns = record {
      lines = c.arrange-all.ensures.lines;
      wide = c.arrange-all.ensures.columns;
      whole = c.arrange-all.ensures.whole;
      some = c.arrange-all.ensures.some;
      column = c.arrange-all.ensures.column;
      few = c.arrange-all.ensures.few;
    } in
    let room = sizes_room c.args.axes.now c.args.contents.now c.arrange-all.result.count c.arrange-all.result.columns c.args.sizes.now c.args.at lines c.requires.sizes in
    search rules

pub slice_bounds-result-end : goal.slice_bounds-result-end
slice_bounds-result-end c =
    let lines : AreLines c.args.axes.now c.args.contents.now c.arrange-all.result.count c.arrange-all.result.columns = record {
      lines = c.arrange-all.ensures.lines;
      wide = c.arrange-all.ensures.columns;
      whole = c.arrange-all.ensures.whole;
      some = c.arrange-all.ensures.some;
      column = c.arrange-all.ensures.column;
      few = c.arrange-all.ensures.few;
    } in
    let room = sizes_room c.args.axes.now c.args.contents.now c.arrange-all.result.count c.arrange-all.result.columns c.args.sizes.now c.args.at lines c.requires.sizes in
    search rules

pub overflow_add-result : goal.overflow_add-result
overflow_add-result c =
    let lines : AreLines c.args.axes.now c.args.contents.now c.arrange-all.result.count c.arrange-all.result.columns = record {
      lines = c.arrange-all.ensures.lines;
      wide = c.arrange-all.ensures.columns;
      whole = c.arrange-all.ensures.whole;
      some = c.arrange-all.ensures.some;
      column = c.arrange-all.ensures.column;
      few = c.arrange-all.ensures.few;
    } in
    let room = sizes_room c.args.axes.now c.args.contents.now c.arrange-all.result.count c.arrange-all.result.columns c.args.sizes.now c.args.at lines c.requires.sizes in
    search rules

pub slice_bounds-result-end-2 : goal.slice_bounds-result-end-2
slice_bounds-result-end-2 c =
    let lines : AreLines c.args.axes.now c.args.contents.now c.arrange-all.result.count c.arrange-all.result.columns = record {
      lines = c.arrange-all.ensures.lines;
      wide = c.arrange-all.ensures.columns;
      whole = c.arrange-all.ensures.whole;
      some = c.arrange-all.ensures.some;
      column = c.arrange-all.ensures.column;
      few = c.arrange-all.ensures.few;
    } in
    let room = sizes_room c.args.axes.now c.args.contents.now c.arrange-all.result.count c.arrange-all.result.columns c.args.sizes.now c.args.at lines c.requires.sizes in
    search rules

pub returns-clause-grid : goal.returns-clause-grid
returns-clause-grid c =
    let lines : AreLines c.args.axes.now c.args.contents.now c.arrange-all.result.count c.arrange-all.result.columns = record {
      lines = c.arrange-all.ensures.lines;
      wide = c.arrange-all.ensures.columns;
      whole = c.arrange-all.ensures.whole;
      some = c.arrange-all.ensures.some;
      column = c.arrange-all.ensures.column;
      few = c.arrange-all.ensures.few;
    } in
    let ws : take (c.args.at + c.arrange-all.result.columns - c.args.at) (drop c.args.at c.args.sizes.now) ≡ ws_of c.args.axes.now c.args.contents.now =
    widths_found c.args.axes.now c.args.contents.now c.arrange-all.result.count c.arrange-all.result.columns (c.args.at + c.arrange-all.result.columns - c.args.at) c.args.sizes.now c.args.at lines c.requires.sizes (omega arith) in
    let hs : take (c.args.at + c.arrange-all.result.columns + c.arrange-all.result.count - (c.args.at + c.arrange-all.result.columns)) (drop (c.args.at + c.arrange-all.result.columns) c.args.sizes.now) ≡ hs_of c.args.axes.now c.args.contents.now =
    heights_found c.args.axes.now c.args.contents.now c.arrange-all.result.count c.arrange-all.result.columns (c.args.at + c.arrange-all.result.columns + c.arrange-all.result.count - (c.args.at + c.arrange-all.result.columns))
    (c.args.at + c.arrange-all.result.columns) c.args.sizes.now c.args.at lines c.requires.sizes refl (omega arith) in
    grid_found _ c.args.axes.now c.args.contents.now c.arrange-all.result.count c.arrange-all.result.columns lines c.requires.rank c.requires.few (omega (arith, ap length c.arrange-all.ensures.frame, c.arrange-all.ensures.rank)) c.arrange-all.ensures.frame ws hs

pub returns-clause-rows : goal.returns-clause-rows
returns-clause-rows c =
    let lines : AreLines c.args.axes.now c.args.contents.now c.arrange-all.result.count c.arrange-all.result.columns = record {
      lines = c.arrange-all.ensures.lines;
      wide = c.arrange-all.ensures.columns;
      whole = c.arrange-all.ensures.whole;
      some = c.arrange-all.ensures.some;
      column = c.arrange-all.ensures.column;
      few = c.arrange-all.ensures.few;
    } in
    let ws : take (c.args.at + c.arrange-all.result.columns - c.args.at) (drop c.args.at c.args.sizes.now) ≡ ws_of c.args.axes.now c.args.contents.now =
    widths_found c.args.axes.now c.args.contents.now c.arrange-all.result.count c.arrange-all.result.columns (c.args.at + c.arrange-all.result.columns - c.args.at) c.args.sizes.now c.args.at lines c.requires.sizes (omega arith) in
    let hs : take (c.args.at + c.arrange-all.result.columns + c.arrange-all.result.count - (c.args.at + c.arrange-all.result.columns)) (drop (c.args.at + c.arrange-all.result.columns) c.args.sizes.now) ≡ hs_of c.args.axes.now c.args.contents.now =
    heights_found c.args.axes.now c.args.contents.now c.arrange-all.result.count c.arrange-all.result.columns (c.args.at + c.arrange-all.result.columns + c.arrange-all.result.count - (c.args.at + c.arrange-all.result.columns))
    (c.args.at + c.arrange-all.result.columns) c.args.sizes.now c.args.at lines c.requires.sizes refl (omega arith) in
    rows_same c.arrange-all.result.frame.now (take (c.args.at + c.arrange-all.result.columns - c.args.at) (drop c.args.at c.args.sizes.now)) c.args.axes.now c.args.contents.now c.arrange-all.result.count c.arrange-all.result.columns lines c.arrange-all.ensures.frame ws

pub returns-clause-sizes : goal.returns-clause-sizes
returns-clause-sizes c =
    let lines : AreLines c.args.axes.now c.args.contents.now c.arrange-all.result.count c.arrange-all.result.columns = record {
      lines = c.arrange-all.ensures.lines;
      wide = c.arrange-all.ensures.columns;
      whole = c.arrange-all.ensures.whole;
      some = c.arrange-all.ensures.some;
      column = c.arrange-all.ensures.column;
      few = c.arrange-all.ensures.few;
    } in
    let ws : take (c.args.at + c.arrange-all.result.columns - c.args.at) (drop c.args.at c.args.sizes.now) ≡ ws_of c.args.axes.now c.args.contents.now =
    widths_found c.args.axes.now c.args.contents.now c.arrange-all.result.count c.arrange-all.result.columns (c.args.at + c.arrange-all.result.columns - c.args.at) c.args.sizes.now c.args.at lines c.requires.sizes (omega arith) in
    let hs : take (c.args.at + c.arrange-all.result.columns + c.arrange-all.result.count - (c.args.at + c.arrange-all.result.columns)) (drop (c.args.at + c.arrange-all.result.columns) c.args.sizes.now) ≡ hs_of c.args.axes.now c.args.contents.now =
    heights_found c.args.axes.now c.args.contents.now c.arrange-all.result.count c.arrange-all.result.columns (c.args.at + c.arrange-all.result.columns + c.arrange-all.result.count - (c.args.at + c.arrange-all.result.columns))
    (c.args.at + c.arrange-all.result.columns) c.args.sizes.now c.args.at lines c.requires.sizes refl (omega arith) in
    let own = own_many c.args.axes.now c.args.contents.now c.arrange-all.result.count c.arrange-all.result.columns lines in
    let w = ws_many c.args.axes.now c.args.contents.now c.arrange-all.result.count c.arrange-all.result.columns lines in
    let h = hs_many c.args.axes.now c.args.contents.now c.arrange-all.result.count c.arrange-all.result.columns lines in
    let wn = ap length ws in
    let hn = ap length hs in
    omega arith

pub returns-clause-room : goal.returns-clause-room
returns-clause-room c =
    let lines : AreLines c.args.axes.now c.args.contents.now c.arrange-all.result.count c.arrange-all.result.columns = record {
      lines = c.arrange-all.ensures.lines;
      wide = c.arrange-all.ensures.columns;
      whole = c.arrange-all.ensures.whole;
      some = c.arrange-all.ensures.some;
      column = c.arrange-all.ensures.column;
      few = c.arrange-all.ensures.few;
    } in
    let ws : take (c.args.at + c.arrange-all.result.columns - c.args.at) (drop c.args.at c.args.sizes.now) ≡ ws_of c.args.axes.now c.args.contents.now =
    widths_found c.args.axes.now c.args.contents.now c.arrange-all.result.count c.arrange-all.result.columns (c.args.at + c.arrange-all.result.columns - c.args.at) c.args.sizes.now c.args.at lines c.requires.sizes (omega arith) in
    let hs : take (c.args.at + c.arrange-all.result.columns + c.arrange-all.result.count - (c.args.at + c.arrange-all.result.columns)) (drop (c.args.at + c.arrange-all.result.columns) c.args.sizes.now) ≡ hs_of c.args.axes.now c.args.contents.now =
    heights_found c.args.axes.now c.args.contents.now c.arrange-all.result.count c.arrange-all.result.columns (c.args.at + c.arrange-all.result.columns + c.arrange-all.result.count - (c.args.at + c.arrange-all.result.columns))
    (c.args.at + c.arrange-all.result.columns) c.args.sizes.now c.args.at lines c.requires.sizes refl (omega arith) in
    let room = sizes_room c.args.axes.now c.args.contents.now c.arrange-all.result.count c.arrange-all.result.columns c.args.sizes.now c.args.at lines c.requires.sizes in
    let w = ws_many c.args.axes.now c.args.contents.now c.arrange-all.result.count c.arrange-all.result.columns lines in
    let h = hs_many c.args.axes.now c.args.contents.now c.arrange-all.result.count c.arrange-all.result.columns lines in
    let wn = ap length ws in
    let hn = ap length hs in
    omega arith

pub offset_bounds-sizes-at : goal.offset_bounds-sizes-at
offset_bounds-sizes-at c =
    let lines : AreLines c.args.axes.now c.args.contents.now c.arrange-all.result.count c.arrange-all.result.columns = record {
      lines = c.arrange-all.ensures.lines;
      wide = c.arrange-all.ensures.columns;
      whole = c.arrange-all.ensures.whole;
      some = c.arrange-all.ensures.some;
      column = c.arrange-all.ensures.column;
      few = c.arrange-all.ensures.few;
    } in
    let room = sizes_room c.args.axes.now c.args.contents.now c.arrange-all.result.count c.arrange-all.result.columns c.args.sizes.now c.args.at lines c.requires.sizes in
    search rules
