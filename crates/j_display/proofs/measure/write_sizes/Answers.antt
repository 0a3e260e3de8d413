use Rattle.std.proofs.Common.{arith, ◌≡◌, ◌+◌, ◌++◌, take, drop, length, refl, sym, ap, ◌∙◌}
use Rattle.j_display.specs.Rows.{line_length}
use Rattle.j_display.specs.Sizes.{row_bytes}
use Rattle.j_display.specs.Measured.{grid_height}
use Rattle.j_display.proofs.Own.{own_widths, own_heights, own_width, own_height, two_written}
use Rattle.j_display.proofs.Found.{AreLines, ws_of, hs_of, ws_many, hs_many}
use Rattle.j_display.proofs.measure.write_sizes.Goals as goal

pub returns-clause-size : goal.returns-clause-size
returns-clause-size c =
    let lines : AreLines c.args.axes.now c.args.contents.now c.arrange-all.result.count c.arrange-all.result.columns = record {
      lines = c.arrange-all.ensures.lines;
      wide = c.arrange-all.ensures.columns;
      whole = c.arrange-all.ensures.whole;
      some = c.arrange-all.ensures.some;
      column = c.arrange-all.ensures.column;
      few = c.arrange-all.ensures.few;
    } in
    let ws : c.in_ok-widths.widths.items ≡ ws_of c.args.axes.now c.args.contents.now =
    own_widths c.args.axes.now c.args.contents.now c.arrange-all.result.count c.arrange-all.result.columns c.in_ok-widths.widths.items c.deref.result.now c.arrange-all.ensures.lines c.arrange-all.ensures.columns (c.deref.ensures.value ∙ c.requires.widths) c.in_ok-widths.ensures in
    let hs : c.in_ok-heights.heights.items ≡ hs_of c.args.axes.now c.args.contents.now =
    own_heights c.args.axes.now c.args.contents.now c.arrange-all.result.count c.arrange-all.result.columns c.in_ok-heights.heights.items c.deref-2.result.now c.arrange-all.ensures.lines c.arrange-all.ensures.columns (c.deref-2.ensures.value ∙ c.requires.heights) c.in_ok-heights.ensures in
    let n : c.arrange-all.result.columns ≡ length c.in_ok-widths.widths.items = ws_many c.args.axes.now c.args.contents.now c.arrange-all.result.count c.arrange-all.result.columns lines ∙ sym (ap length ws) in
    let m : c.arrange-all.result.count ≡ length c.in_ok-heights.heights.items = hs_many c.args.axes.now c.args.contents.now c.arrange-all.result.count c.arrange-all.result.columns lines ∙ sym (ap length hs) in
    record {
      width =
          own_width c.args.axes.now c.args.contents.now c.arrange-all.result.count c.arrange-all.result.columns c.in_ok-width.width c.in_ok-widths.widths.items c.arrange-all.ensures.lines c.arrange-all.ensures.columns c.arrange-all.ensures.whole
          c.arrange-all.ensures.some ws (c.in_ok-width.ensures ∙ ap (λ v. row_bytes v + 1) c.deref-3.ensures.value);
      height =
          own_height c.args.axes.now c.arrange-all.result.frame.now c.args.contents.now c.in_ok-height.height c.in_ok-heights.heights.items c.arrange-all.ensures.frame hs
          (c.in_ok-height.ensures ∙ ap (λ v. grid_height c.arrange-all.result.frame.now v (length v)) c.deref-4.ensures.value);
    }

pub returns-clause-sizes : goal.returns-clause-sizes
returns-clause-sizes c =
    let lines : AreLines c.args.axes.now c.args.contents.now c.arrange-all.result.count c.arrange-all.result.columns = record {
      lines = c.arrange-all.ensures.lines;
      wide = c.arrange-all.ensures.columns;
      whole = c.arrange-all.ensures.whole;
      some = c.arrange-all.ensures.some;
      column = c.arrange-all.ensures.column;
      few = c.arrange-all.ensures.few;
    } in
    let ws : c.in_ok-widths.widths.items ≡ ws_of c.args.axes.now c.args.contents.now =
    own_widths c.args.axes.now c.args.contents.now c.arrange-all.result.count c.arrange-all.result.columns c.in_ok-widths.widths.items c.deref.result.now c.arrange-all.ensures.lines c.arrange-all.ensures.columns (c.deref.ensures.value ∙ c.requires.widths) c.in_ok-widths.ensures in
    let hs : c.in_ok-heights.heights.items ≡ hs_of c.args.axes.now c.args.contents.now =
    own_heights c.args.axes.now c.args.contents.now c.arrange-all.result.count c.arrange-all.result.columns c.in_ok-heights.heights.items c.deref-2.result.now c.arrange-all.ensures.lines c.arrange-all.ensures.columns (c.deref-2.ensures.value ∙ c.requires.heights) c.in_ok-heights.ensures in
    let n : c.arrange-all.result.columns ≡ length c.in_ok-widths.widths.items = ws_many c.args.axes.now c.args.contents.now c.arrange-all.result.count c.arrange-all.result.columns lines ∙ sym (ap length ws) in
    let m : c.arrange-all.result.count ≡ length c.in_ok-heights.heights.items = hs_many c.args.axes.now c.args.contents.now c.arrange-all.result.count c.arrange-all.result.columns lines ∙ sym (ap length hs) in
    let w5 : c.deref-5.result.now ≡ ws_of c.args.axes.now c.args.contents.now = c.deref-5.ensures.value ∙ ws in
    let h6 : c.deref-6.result.now ≡ hs_of c.args.axes.now c.args.contents.now = c.deref-6.ensures.value ∙ hs in
    let room = c.requires.room in
    two_written c.args.sizes.now c.put.new.into c.put-2.new.into c.deref-5.result.now c.deref-6.result.now c.args.start (c.args.start + c.arrange-all.result.columns) c.arrange-all.result.columns c.arrange-all.result.count
    (n ∙ ap length (sym c.deref-5.ensures.value)) (m ∙ ap length (sym c.deref-6.ensures.value)) refl (omega arith) c.put.ensures c.put-2.ensures
    ∙ ap (λ v. take c.args.start c.args.sizes.now ++ ((v ++ c.deref-6.result.now) ++ drop (c.args.start + (c.arrange-all.result.columns + c.arrange-all.result.count)) c.args.sizes.now)) w5
    ∙ ap (λ v. take c.args.start c.args.sizes.now ++ ((ws_of c.args.axes.now c.args.contents.now ++ v) ++ drop (c.args.start + (c.arrange-all.result.columns + c.arrange-all.result.count)) c.args.sizes.now)) h6
    ∙ ap (λ k. take c.args.start c.args.sizes.now ++ ((ws_of c.args.axes.now c.args.contents.now ++ hs_of c.args.axes.now c.args.contents.now) ++ drop (c.args.start + (k + c.arrange-all.result.count)) c.args.sizes.now)) c.arrange-all.ensures.columns
    ∙ ap (λ k. take c.args.start c.args.sizes.now ++ ((ws_of c.args.axes.now c.args.contents.now ++ hs_of c.args.axes.now c.args.contents.now) ++ drop (c.args.start + (line_length c.args.axes.now + k)) c.args.sizes.now)) c.arrange-all.ensures.lines

pub put-requires : goal.put-requires
put-requires c =
    let lines : AreLines c.args.axes.now c.args.contents.now c.arrange-all.result.count c.arrange-all.result.columns = record {
      lines = c.arrange-all.ensures.lines;
      wide = c.arrange-all.ensures.columns;
      whole = c.arrange-all.ensures.whole;
      some = c.arrange-all.ensures.some;
      column = c.arrange-all.ensures.column;
      few = c.arrange-all.ensures.few;
    } in
    let ws : c.in_ok-widths.widths.items ≡ ws_of c.args.axes.now c.args.contents.now =
    own_widths c.args.axes.now c.args.contents.now c.arrange-all.result.count c.arrange-all.result.columns c.in_ok-widths.widths.items c.deref.result.now c.arrange-all.ensures.lines c.arrange-all.ensures.columns (c.deref.ensures.value ∙ c.requires.widths) c.in_ok-widths.ensures in
    let hs : c.in_ok-heights.heights.items ≡ hs_of c.args.axes.now c.args.contents.now =
    own_heights c.args.axes.now c.args.contents.now c.arrange-all.result.count c.arrange-all.result.columns c.in_ok-heights.heights.items c.deref-2.result.now c.arrange-all.ensures.lines c.arrange-all.ensures.columns (c.deref-2.ensures.value ∙ c.requires.heights) c.in_ok-heights.ensures in
    let n : c.arrange-all.result.columns ≡ length c.in_ok-widths.widths.items = ws_many c.args.axes.now c.args.contents.now c.arrange-all.result.count c.arrange-all.result.columns lines ∙ sym (ap length ws) in
    let m : c.arrange-all.result.count ≡ length c.in_ok-heights.heights.items = hs_many c.args.axes.now c.args.contents.now c.arrange-all.result.count c.arrange-all.result.columns lines ∙ sym (ap length hs) in
    let w5 = ap length c.deref-5.ensures.value in
    let room = c.requires.room in
    omega arith

pub put-requires-2 : goal.put-requires-2
put-requires-2 c =
    let lines : AreLines c.args.axes.now c.args.contents.now c.arrange-all.result.count c.arrange-all.result.columns = record {
      lines = c.arrange-all.ensures.lines;
      wide = c.arrange-all.ensures.columns;
      whole = c.arrange-all.ensures.whole;
      some = c.arrange-all.ensures.some;
      column = c.arrange-all.ensures.column;
      few = c.arrange-all.ensures.few;
    } in
    let ws : c.in_ok-widths.widths.items ≡ ws_of c.args.axes.now c.args.contents.now =
    own_widths c.args.axes.now c.args.contents.now c.arrange-all.result.count c.arrange-all.result.columns c.in_ok-widths.widths.items c.deref.result.now c.arrange-all.ensures.lines c.arrange-all.ensures.columns (c.deref.ensures.value ∙ c.requires.widths) c.in_ok-widths.ensures in
    let hs : c.in_ok-heights.heights.items ≡ hs_of c.args.axes.now c.args.contents.now =
    own_heights c.args.axes.now c.args.contents.now c.arrange-all.result.count c.arrange-all.result.columns c.in_ok-heights.heights.items c.deref-2.result.now c.arrange-all.ensures.lines c.arrange-all.ensures.columns (c.deref-2.ensures.value ∙ c.requires.heights) c.in_ok-heights.ensures in
    let n : c.arrange-all.result.columns ≡ length c.in_ok-widths.widths.items = ws_many c.args.axes.now c.args.contents.now c.arrange-all.result.count c.arrange-all.result.columns lines ∙ sym (ap length ws) in
    let m : c.arrange-all.result.count ≡ length c.in_ok-heights.heights.items = hs_many c.args.axes.now c.args.contents.now c.arrange-all.result.count c.arrange-all.result.columns lines ∙ sym (ap length hs) in
    let h6 = ap length c.deref-6.ensures.value in
    let room = c.requires.room in
    let same = ap length c.put.ensures in
    omega arith
