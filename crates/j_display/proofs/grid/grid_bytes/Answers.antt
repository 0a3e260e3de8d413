use Rattle.std.proofs.Common.{arith, ℕ, ◌≡◌, ◌+◌, ◌*◌, get_or, ap, ◌∙◌, sym}
use Rattle.j_display.specs.Rows.{gap, rules_above}
use Rattle.j_display.proofs.Maxima.{sum_more}
use Rattle.j_display.proofs.grid.grid_bytes.Goals as goal

pub loop-k-preserved : goal.loop-k-preserved
loop-k-preserved c =
    let f : ℕ → ℕ = λ i. gap c.args.frame.now i + (rules_above c.args.frame.now i + (get_or c.args.heights.now i 0 + 1)) * c.args.row in
    let more = sum_more f c.loop-k.k in
    let rows : c.in_ok-rows.rows ≡ rules_above c.args.frame.now c.loop-k.k + (get_or c.args.heights.now c.loop-k.k 0 + 1) = omega arith in
    let bytes : c.in_ok-bytes.bytes ≡ (rules_above c.args.frame.now c.loop-k.k + (get_or c.args.heights.now c.loop-k.k 0 + 1)) * c.args.row = c.in_ok-bytes.ensures ∙ ap (λ m. m * c.args.row) rows in
    let done : c.in_ok-total.total ≡ c.loop-k.total + (gap c.args.frame.now c.loop-k.k + (rules_above c.args.frame.now c.loop-k.k + (get_or c.args.heights.now c.loop-k.k 0 + 1)) * c.args.row) = omega arith in
    done ∙ ap (λ t. t + (gap c.args.frame.now c.loop-k.k + (rules_above c.args.frame.now c.loop-k.k + (get_or c.args.heights.now c.loop-k.k 0 + 1)) * c.args.row)) c.loop-k.invariant ∙ sym more
