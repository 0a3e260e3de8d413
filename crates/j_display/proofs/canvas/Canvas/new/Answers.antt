use Rattle.std.proofs.Common.{rules, ◌≡◌, [], ◌++◌, replicate, ap, ◌∙◌}
use Rattle.j_display.specs.Blocks.{rows_within}
use Rattle.j_display.proofs.Rooms.{rows_within-replicate}
use Rattle.j_display.proofs.Blocks.{filled}
use Rattle.j_display.proofs.canvas.Canvas.new.Goals as goal

pub returns : goal.returns
returns c =
    let empty : c.in_ok-lengths.lengths.items ≡ [] = search rules in
    let none : c.resize-2.new.self.items ≡ replicate c.args.height 0 = c.in-Ok-resize.ensures.items ∙ filled c.in_ok-lengths.lengths.items 0 _ c.args.height c.args.height (search rules) (search rules) ∙ ap (λ r. r ++ replicate c.args.height 0) empty in
    ap (λ ns. rows_within c.args.room ns c.resize.new.self.items) none ∙ rows_within-replicate c.args.room c.args.height c.resize.new.self.items
