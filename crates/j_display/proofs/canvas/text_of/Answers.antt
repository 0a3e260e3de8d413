use Rattle.std.proofs.Common.{arith, ℕ, ◌≡◌, ◌+◌, ◌-◌, ◌*◌, take, drop, get_or, sym, ap, ◌∙◌}
use Rattle.j_display.proofs.Rooms.{row_within}
use Rattle.j_display.proofs.canvas.text_of.Goals as goal

pub returns : goal.returns
returns c =
    let n : ℕ = get_or c.args.lengths.now c.args.row 0 in
    let size : c.args.row * c.args.room + n - c.args.row * c.args.room ≡ n = omega arith in
    ap (λ k. take k (drop (c.args.row * c.args.room) c.args.bytes.now)) size ∙ sym (row_within c.args.room c.args.lengths.now c.args.bytes.now c.args.row c.requires.row)
