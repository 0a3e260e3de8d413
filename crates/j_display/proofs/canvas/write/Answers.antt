use Rattle.std.proofs.Common.{arith, ℕ, ◌≡◌, ◌<◌, ◌≤◌, ◌+◌, ◌-◌, ◌*◌, ◌++◌, length, take, drop, get_or, refl, sym, ap, ◌∙◌}
use Rattle.std.proofs.Math.ListN.{set}
use Rattle.j_display.specs.Blocks.{rows_within}
use Rattle.j_display.proofs.Blocks.{extended-past}
use Rattle.j_display.proofs.Rooms.{length-rows_within, written_rows}
use Rattle.j_display.proofs.canvas.write.Goals as goal

pub returns-then-row-lengths-clause-rows : goal.returns-then-row-lengths-clause-rows
returns-then-row-lengths-clause-rows c =
    sym (extended-past (rows_within c.args.room c.args.lengths.now c.args.bytes.now) c.args.row c.args.text.now (omega (arith, length-rows_within c.args.room c.args.lengths.now c.args.bytes.now, c.if-row-lengths.true)))

pub returns-clause-rows : goal.returns-clause-rows
returns-clause-rows c =
    let n : ℕ = get_or c.args.lengths.now c.args.row 0 in
    let from : ℕ = c.args.row * c.args.room + n in
    let less : c.args.row < length c.args.lengths.now = omega (arith, c.if-row-lengths.false) in
    let short : n ≤ c.args.room = c.requires.room.short c.args.row 0 less in
    let fits : n + length c.args.text.now ≤ c.args.room = omega (arith, c.if-text-room.false) in
    let size : from + length c.args.text.now - from ≡ length c.args.text.now = omega arith in
    ap (λ v. rows_within c.args.room (set c.args.lengths.now c.args.row (n + length c.args.text.now)) (take from c.args.bytes.now ++ (v ++ drop (from + length c.args.text.now - from) (drop from c.args.bytes.now)))) c.copy_from_slice.ensures.after
    ∙ ap (λ k. rows_within c.args.room (set c.args.lengths.now c.args.row (n + length c.args.text.now)) (take from c.args.bytes.now ++ (c.args.text.now ++ drop k (drop from c.args.bytes.now)))) size
    ∙ written_rows c.args.room c.args.lengths.now c.args.bytes.now c.args.row from (n + length c.args.text.now) c.args.text.now c.requires.room less refl fits refl
