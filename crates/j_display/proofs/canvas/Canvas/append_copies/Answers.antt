use Rattle.std.proofs.Common.{arith, ◌≡◌, ◌∷◌, [], replicate, sym, ap, ◌∙◌}
use Rattle.j_display.specs.Blocks.{extended}
use Rattle.j_display.proofs.Blocks.{extended-none}
use Rattle.j_display.proofs.canvas.Canvas.append_copies.Goals as goal

pub returns-then-count-eq0 : goal.returns-then-count-eq0
returns-then-count-eq0 c =
    let none : 0 ≡ c.args.count = omega (arith, c.if-count-eq0.true) in
    sym (extended-none c.args.self.now c.args.row) ∙ ap (λ n. extended c.args.self.now c.args.row (replicate n c.args.byte ∷ [])) none
