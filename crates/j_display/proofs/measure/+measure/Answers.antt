use Rattle.std.proofs.Common.{arith, rules, ℕ, List, ◌≡◌, ◌≢◌, ◌<◌, ◌+◌, ◌++◌, ◌∷◌, [], length, map, take, drop, get_or, replicate, subst, sym, ap, ◌∙◌, append_assoc}
use Rattle.std.specs.List.{flat_map}
use Rattle.std.proofs.lemmas.List.{append-nil, length-map, length-append, length-replicate, take_at}
use Rattle.j_definitions.specs.Array.{Array, boxed, level, product}
use Rattle.j_definitions.specs.declared.Kind.TheVariants.{Boxed}
use Rattle.j_definitions.proofs.Laws.{level_falls}
use Rattle.j_noun.specs.Viewed.{viewed, kind_viewed}
use Rattle.j_display.specs.Rows.{rows_without_atoms, line_frame, line_length, lines_stacked, width_of, noun_rows, box_rows}
use Rattle.j_display.specs.Measured.{IsSize, own_sizes, noun_sizes}
use Rattle.j_display.proofs.Contents.{no_rows, no_sizes, boxed_rows, leaf_rows, leaf_sizes, boxes_level, boxes_written, map_more, if_ok, on_ok, always_ok}
use Rattle.j_display.proofs.Own.{flat_more}
use Rattle.j_display.proofs.measure.+measure.Goals as goal

pub measure-returns-then-view_len-eq0-clause-size : goal.measure-returns-then-view_len-eq0-clause-size
measure-returns-then-view_len-eq0-clause-size t c =
    let h : length c.args.y.now.atoms ≡ 0 = ap length (sym c.view-atoms.ensures.atoms) ∙ sym c.view_len.ensures ∙ c.if-view_len-eq0.true in
    let P : List (List ℕ) → Type 0 = λ rows. IsSize c.measure_no_atoms.result rows in
    subst P (ap rows_without_atoms c.axes.ensures.value ∙ sym (no_rows c.args.y.now h)) c.measure_no_atoms.ensures

pub measure-returns-then-view_len-eq0-clause-sizes : goal.measure-returns-then-view_len-eq0-clause-sizes
measure-returns-then-view_len-eq0-clause-sizes t c =
    let h : length c.args.y.now.atoms ≡ 0 = ap length (sym c.view-atoms.ensures.atoms) ∙ sym c.view_len.ensures ∙ c.if-view_len-eq0.true in
    sym (append-nil c.args.sizes.now.items) ∙ ap (λ s. c.args.sizes.now.items ++ s) (sym (no_sizes c.args.y.now h))

pub measure-measure_contents-requires : goal.measure-measure_contents-requires
measure-measure_contents-requires t c =
    let atoms : c.args.y.now.atoms ≡ map boxed c.in-Boxes.contents.now = sym c.view-atoms.ensures.atoms ∙ ap viewed c.in-Boxes.is in
    let same = boxes_level c.args.y.now c.in-Boxes.contents.now atoms in
    let h = c.decreases in
    omega arith

pub measure-write_sizes-requires-clause-room : goal.measure-write_sizes-requires-clause-room
measure-write_sizes-requires-clause-room t c =
    let n : ℕ = line_length c.axes-in-Boxes-2.result.now + product (line_frame c.axes-in-Boxes-2.result.now) in
    let m : ℕ = line_length c.axes-in-Boxes.result.now + product (line_frame c.axes-in-Boxes.result.now) in
    let axes : m ≡ n = ap (λ s. line_length s + product (line_frame s)) (c.axes-in-Boxes.ensures.value ∙ sym c.axes-in-Boxes-2.ensures.value) in
    let one : length c.reserve_sizes.new.sizes.items ≡ length c.args.sizes.now.items + m = ap length c.in_ok-start-in-Boxes.ensures.sizes ∙ length-append c.args.sizes.now.items (replicate m 0) ∙ ap (λ k. length c.args.sizes.now.items + k) (length-replicate {A = ℕ} m 0) in
    let two = ap length c.in_ok-measured-in-Boxes.ensures.sizes ∙ length-append c.reserve_sizes.new.sizes.items (flat_map noun_sizes c.in-Boxes.contents.now) in
    let vec = ap length c.deref_mut.ensures.value in
    omega (arith, c.in_ok-start-in-Boxes.ensures.start)

pub measure-returns-in_ok-measured-in-Boxes-clause-size : goal.measure-returns-in_ok-measured-in-Boxes-clause-size
measure-returns-in_ok-measured-in-Boxes-clause-size t c =
    let y : Array = c.args.y.now in
    let cs : List Array = c.in-Boxes.contents.now in
    let some : 0 < length cs = omega (arith, c.view_len.ensures ∙ ap (λ v. length (viewed v)) c.in-Boxes.is ∙ length-map cs boxed) in
    let rows : box_rows c.axes-in-Boxes-2.result.now (map noun_rows cs) ≡ noun_rows y = ap (λ s. box_rows s (map noun_rows cs)) c.axes-in-Boxes-2.ensures.value ∙ sym (boxed_rows y cs (sym c.in-Boxes.ensures.kind) (sym c.in-Boxes.ensures.atoms) some) in
    if_ok (λ s. IsSize s (box_rows c.axes-in-Boxes-2.result.now (map noun_rows cs))) (λ s. IsSize s (noun_rows y)) c.write_sizes.result
    (λ s h. let P : List (List ℕ) → Type 0 = λ r. IsSize s r in subst P rows h) c.write_sizes.ensures.size

pub measure-returns-in_ok-measured-in-Boxes-clause-sizes : goal.measure-returns-in_ok-measured-in-Boxes-clause-sizes
measure-returns-in_ok-measured-in-Boxes-clause-sizes t c =
    let y : Array = c.args.y.now in
    let cs : List Array = c.in-Boxes.contents.now in
    let s : List ℕ = c.axes-in-Boxes-2.result.now in
    let n : ℕ = line_length s + product (line_frame s) in
    let some : 0 < length cs = omega (arith, c.view_len.ensures ∙ ap (λ v. length (viewed v)) c.in-Boxes.is ∙ length-map cs boxed) in
    let axes : c.axes-in-Boxes.result.now ≡ s = c.axes-in-Boxes.ensures.value ∙ sym c.axes-in-Boxes-2.ensures.value in
    let now : c.deref_mut.result.now ≡ (c.args.sizes.now.items ++ replicate n 0) ++ flat_map noun_sizes cs =
    c.deref_mut.ensures.value ∙ c.in_ok-measured-in-Boxes.ensures.sizes
    ∙ ap (λ r. r ++ flat_map noun_sizes cs) (c.in_ok-start-in-Boxes.ensures.sizes ∙ ap (λ t. c.args.sizes.now.items ++ replicate (line_length t + product (line_frame t)) 0) axes) in
    let size : length c.write_sizes.new.sizes ≡ c.measure_contents.new.sizes.len = omega (arith, c.write_sizes.auto.sizes, ap length c.deref_mut.ensures.value) in
    on_ok (c.write_sizes.new.sizes ≡ take c.in_ok-start-in-Boxes.start c.deref_mut.result.now ++ (own_sizes s (map noun_rows cs) ++ drop (c.in_ok-start-in-Boxes.start + n) c.deref_mut.result.now)) _ c.write_sizes.result
    (λ h. take_at c.write_sizes.new.sizes (drop (length c.write_sizes.new.sizes) c.measure_contents.new.sizes.items) c.measure_contents.new.sizes.len size
    ∙ boxes_written y cs c.args.sizes.now.items c.deref_mut.result.now c.write_sizes.new.sizes c.in_ok-start-in-Boxes.start s c.axes-in-Boxes-2.ensures.value (sym c.in-Boxes.ensures.kind) (sym c.in-Boxes.ensures.atoms) some now
    c.in_ok-start-in-Boxes.ensures.start h) c.write_sizes.ensures.sizes

pub measure-returns-in-Wholes : goal.measure-returns-in-Wholes
measure-returns-in-Wholes t c =
    let y : Array = c.args.y.now in
    let nb : kind_viewed c.view-atoms.result ≢ Boxed = search rules in
    let some : 0 < length (viewed c.view-atoms.result) = omega (arith, c.view_len.ensures) in
    let rows : lines_stacked (kind_viewed c.view-atoms.result) (line_frame c.axes-in-Wholes.result.now) (line_length c.axes-in-Wholes.result.now) (viewed c.view-atoms.result) ≡ noun_rows y =
    ap (λ s. lines_stacked (kind_viewed c.view-atoms.result) (line_frame s) (line_length s) (viewed c.view-atoms.result)) c.axes-in-Wholes.ensures.value
    ∙ sym (leaf_rows y (kind_viewed c.view-atoms.result) (viewed c.view-atoms.result) c.view-atoms.ensures.kind c.view-atoms.ensures.atoms nb some) in
    record {
      size =
          if_ok (λ s. IsSize s (lines_stacked (kind_viewed c.view-atoms.result) (line_frame c.axes-in-Wholes.result.now) (line_length c.axes-in-Wholes.result.now) (viewed c.view-atoms.result))) (λ s. IsSize s (noun_rows y)) c.measure_lines.result
          (λ s h. let P : List (List ℕ) → Type 0 = λ r. IsSize s r in subst P rows h) c.measure_lines.ensures;
      sizes =
          always_ok (c.args.sizes.now.items ≡ c.args.sizes.now.items ++ noun_sizes y) c.measure_lines.result
          (sym (append-nil c.args.sizes.now.items) ∙ ap (λ s. c.args.sizes.now.items ++ s) (sym (leaf_sizes y (kind_viewed c.view-atoms.result) c.view-atoms.ensures.kind nb)));
    }

pub measure_contents-measure-requires : goal.measure_contents-measure-requires
measure_contents-measure-requires t c =
    let less : c.loop-content.content-index < length c.args.contents.now = c.loop-content-test.true in
    let below = level_falls c.args.contents.now c.loop-content.content-index c.content-item.result less in
    let same : level (get_or c.args.contents.now c.loop-content.content-index c.content-item.result) ≡ level c.content-item.result = ap level (sym c.content-item.is) in
    let h = c.decreases in
    (omega arith, tt)

pub measure_contents-loop-content-preserved : goal.measure_contents-loop-content-preserved
measure_contents-loop-content-preserved t c =
    let cs : List Array = c.args.contents.now in
    let i : ℕ = c.loop-content.content-index in
    let y : Array = c.content-item.result in
    let less : i < length cs = c.loop-content-test.true in
    let width : c.in_ok-size.size.width ≡ width_of (noun_rows (get_or cs i y)) = c.in_ok-size.ensures.size.width ∙ ap (λ z. width_of (noun_rows z)) c.content-item.is in
    let height : c.in_ok-size.size.height ≡ length (noun_rows (get_or cs i y)) = c.in_ok-size.ensures.size.height ∙ ap (λ z. length (noun_rows z)) c.content-item.is in
    let sizes : noun_sizes y ≡ noun_sizes (get_or cs i y) = ap noun_sizes c.content-item.is in
    record {
      widths =
          c.in-Ok.ensures.items ∙ ap (λ r. r ++ c.in_ok-size.size.width ∷ []) c.loop-content.invariant.widths ∙ ap (λ v. map (λ z. width_of (noun_rows z)) (take i cs) ++ v ∷ []) width ∙ sym (map_more (λ z. width_of (noun_rows z)) cs i y less);
      heights =
          c.in-Ok-push.ensures.items ∙ ap (λ r. r ++ c.in_ok-size.size.height ∷ []) c.loop-content.invariant.heights ∙ ap (λ v. map (λ z. length (noun_rows z)) (take i cs) ++ v ∷ []) height ∙ sym (map_more (λ z. length (noun_rows z)) cs i y less);
      sizes =
          c.in_ok-size.ensures.sizes ∙ ap (λ r. r ++ noun_sizes y) c.loop-content.invariant.sizes ∙ append_assoc c.args.sizes.now.items (flat_map noun_sizes (take i cs)) (noun_sizes y)
          ∙ ap (λ v. c.args.sizes.now.items ++ (flat_map noun_sizes (take i cs) ++ v)) sizes ∙ ap (λ v. c.args.sizes.now.items ++ v) (sym (flat_more noun_sizes cs i y less));
    }
