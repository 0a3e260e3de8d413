use Rattle.std.proofs.Common.{arith, ◌≡◌, ◌-◌, ◌∷◌, [], replicate, ap, ◌∙◌, length}
use Rattle.j_display.specs.Blocks.{extended}
use Rattle.j_display.specs.Lines.{row_at}
use Rattle.j_display.proofs.Blocks.{extended-alongside}
use Rattle.j_display.proofs.canvas.Canvas.append_line.Goals as goal

pub returns : goal.returns
returns c =
    let many : c.saturating_sub.result ≡ c.args.width - length (row_at c.args.lines c.args.k) = omega arith in
    c.in_ok-append_copies.ensures
    ∙ ap (λ n. extended c.append_bare_line.new.self c.args.row (replicate n 32 ∷ [])) many
    ∙ ap (λ r. extended r c.args.row (replicate (c.args.width - length (row_at c.args.lines c.args.k)) 32 ∷ [])) c.in_ok-append_bare_line.ensures
    ∙ extended-alongside c.args.self.now c.args.row (row_at c.args.lines c.args.k ∷ []) (replicate (c.args.width - length (row_at c.args.lines c.args.k)) 32 ∷ [])
