use Rattle.std.proofs.Common.{arith, ◌+◌, ◌∷◌, [], replicate, ap, ◌∙◌, sym}
use Rattle.std.proofs.lemmas.List.{length-replicate}
use Rattle.j_display.specs.Blocks.{extended}
use Rattle.j_display.proofs.Blocks.{extended-nil, extended-under, replicate-push}
use Rattle.j_display.proofs.canvas.Canvas.append_to_each.Goals as goal

pub loop-r-init : goal.loop-r-init
loop-r-init c = sym (extended-nil c.args.self.now c.args.row)

pub loop-r-preserved : goal.loop-r-preserved
loop-r-preserved c =
    c.in_ok-append_copies.ensures
    ∙ ap (λ r. extended r (c.args.row + c.loop-r.r) (replicate c.args.count c.args.byte ∷ [])) c.loop-r.invariant
    ∙ extended-under c.args.self.now c.args.row (c.args.row + c.loop-r.r) (replicate c.loop-r.r (replicate c.args.count c.args.byte)) (replicate c.args.count c.args.byte ∷ []) (omega (arith, length-replicate c.loop-r.r (replicate c.args.count c.args.byte)))
    ∙ ap (λ b. extended c.args.self.now c.args.row b) (replicate-push c.loop-r.r (replicate c.args.count c.args.byte))
