use Rattle.std.proofs.Common.{arith, ℕ, List, ◌≡◌, ◌++◌, [], length, map, refl, sym, ap, ◌∙◌}
use Rattle.std.specs.List.{flat_map}
use Rattle.std.proofs.lemmas.List.{append-nil}
use Rattle.j_definitions.specs.Array.{Array}
use Rattle.j_display.specs.Rows.{noun_rows, box_rows, joined}
use Rattle.j_display.specs.Measured.{own_sizes, noun_sizes}
use Rattle.j_display.proofs.Contents.{boxed_rows, boxed_sizes}
use Rattle.j_display.proofs.Shows.{painted_whole, box_bytes}
use Rattle.j_display.proofs.display.show_boxes.Goals as goal

pub grid_at-grid-requires-clause-sizes : goal.grid_at-grid-requires-clause-sizes
grid_at-grid-requires-clause-sizes c =
    let y : Array = c.args.y.now in
    let cs : List Array = c.args.contents.now in
    let s : List ℕ = c.axes.result.now in
    let all : c.measure.new.sizes.items ≡ noun_sizes y = c.in_ok-size.ensures.sizes ∙ ap (λ t. t ++ noun_sizes y) c.new-sizes.ensures.items in
    let sizes : own_sizes s (map noun_rows cs) ++ flat_map noun_sizes cs ≡ noun_sizes y = ap (λ t. own_sizes t (map noun_rows cs) ++ flat_map noun_sizes cs) c.axes.ensures.value ∙ sym (boxed_sizes y cs c.requires.kind c.requires.atoms c.requires.some) in
    (flat_map noun_sizes cs, c.deref.ensures.value ∙ all ∙ sym sizes)

pub paint-requires : goal.paint-requires
paint-requires c =
    let y : Array = c.args.y.now in
    let cs : List Array = c.args.contents.now in
    let s : List ℕ = c.axes.result.now in
    let all : c.measure.new.sizes.items ≡ noun_sizes y = c.in_ok-size.ensures.sizes ∙ ap (λ t. t ++ noun_sizes y) c.new-sizes.ensures.items in
    record { sizes = ([], c.deref-2.ensures.value ∙ all ∙ sym (append-nil (noun_sizes y))) }

pub returns-then-room-bytes : goal.returns-then-room-bytes
returns-then-room-bytes c =
    let y : Array = c.args.y.now in
    let cs : List Array = c.args.contents.now in
    let s : List ℕ = c.axes.result.now in
    let all : c.measure.new.sizes.items ≡ noun_sizes y = c.in_ok-size.ensures.sizes ∙ ap (λ t. t ++ noun_sizes y) c.new-sizes.ensures.items in
    let rows : box_rows s (map noun_rows cs) ≡ noun_rows y = ap (λ t. box_rows t (map noun_rows cs)) c.axes.ensures.value ∙ sym (boxed_rows y cs c.requires.kind c.requires.atoms c.requires.some) in
    let bytes : c.in_ok-bytes.bytes ≡ length (joined (noun_rows y)) =
    box_bytes c.grid_at-grid.result cs (noun_rows y) c.in_ok-long.long c.in_ok-row.row c.in_ok-bytes.bytes c.grid_at-grid.ensures.grid (c.grid_at-grid.ensures.rows ∙ rows) c.in_ok-long.ensures c.in_ok-row.ensures c.in_ok-bytes.ensures in
    (refl, omega (arith, c.if-room-bytes.true))

pub append_to-requires : goal.append_to-requires
append_to-requires c =
    let y : Array = c.args.y.now in
    let cs : List Array = c.args.contents.now in
    let s : List ℕ = c.axes.result.now in
    let all : c.measure.new.sizes.items ≡ noun_sizes y = c.in_ok-size.ensures.sizes ∙ ap (λ t. t ++ noun_sizes y) c.new-sizes.ensures.items in
    let rows : box_rows s (map noun_rows cs) ≡ noun_rows y = ap (λ t. box_rows t (map noun_rows cs)) c.axes.ensures.value ∙ sym (boxed_rows y cs c.requires.kind c.requires.atoms c.requires.some) in
    let bytes : c.in_ok-bytes.bytes ≡ length (joined (noun_rows y)) =
    box_bytes c.grid_at-grid.result cs (noun_rows y) c.in_ok-long.long c.in_ok-row.row c.in_ok-bytes.bytes c.grid_at-grid.ensures.grid (c.grid_at-grid.ensures.rows ∙ rows) c.in_ok-long.ensures c.in_ok-row.ensures c.in_ok-bytes.ensures in
    let whole : c.paint.new.canvas ≡ noun_rows y = painted_whole c.in_ok-canvas.canvas c.paint.new.canvas (noun_rows y) c.in_ok-size.size.height c.in_ok-canvas.ensures c.in_ok-paint.ensures.canvas c.in_ok-size.ensures.size.height in
    let size = ap (λ r. length (joined r)) whole in
    record { room = omega (arith, c.in-Ok.ensures.ok) }

pub returns : goal.returns
returns c =
    let y : Array = c.args.y.now in
    let cs : List Array = c.args.contents.now in
    let s : List ℕ = c.axes.result.now in
    let all : c.measure.new.sizes.items ≡ noun_sizes y = c.in_ok-size.ensures.sizes ∙ ap (λ t. t ++ noun_sizes y) c.new-sizes.ensures.items in
    let rows : box_rows s (map noun_rows cs) ≡ noun_rows y = ap (λ t. box_rows t (map noun_rows cs)) c.axes.ensures.value ∙ sym (boxed_rows y cs c.requires.kind c.requires.atoms c.requires.some) in
    let bytes : c.in_ok-bytes.bytes ≡ length (joined (noun_rows y)) =
    box_bytes c.grid_at-grid.result cs (noun_rows y) c.in_ok-long.long c.in_ok-row.row c.in_ok-bytes.bytes c.grid_at-grid.ensures.grid (c.grid_at-grid.ensures.rows ∙ rows) c.in_ok-long.ensures c.in_ok-row.ensures c.in_ok-bytes.ensures in
    let whole : c.paint.new.canvas ≡ noun_rows y = painted_whole c.in_ok-canvas.canvas c.paint.new.canvas (noun_rows y) c.in_ok-size.size.height c.in_ok-canvas.ensures c.in_ok-paint.ensures.canvas c.in_ok-size.ensures.size.height in
    (c.append_to.ensures ∙ ap (λ t. t ++ joined c.paint.new.canvas) c.reserve.ensures.items ∙ ap (λ r. c.args.into.now.items ++ joined r) whole, omega (arith, c.if-room-bytes.false))
