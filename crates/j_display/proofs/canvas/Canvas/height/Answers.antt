use Rattle.std.proofs.Common.{rules, ◌≡◌, length, sym, ap, ◌∙◌}
use Rattle.j_display.proofs.Rooms.{length-rows_within}
use Rattle.j_display.proofs.canvas.Canvas.height.Goals as goal

pub returns : goal.returns
returns c =
    let same : c.len.result ≡ length c.self.inside.lengths.items = search rules in
    same ∙ sym (length-rows_within c.self.inside.room c.self.inside.lengths.items c.self.inside.bytes.items) ∙ ap length c.self.view_is
