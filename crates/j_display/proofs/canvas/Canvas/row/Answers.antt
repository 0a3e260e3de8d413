use Rattle.std.proofs.Common.{arith, length, ap, [], get_or, ◌∙◌}
use Rattle.j_display.specs.Blocks.{rows_within}
use Rattle.j_display.proofs.Rooms.{length-rows_within}
use Rattle.j_display.proofs.canvas.Canvas.row.Goals as goal

pub text_of-requires : goal.text_of-requires
text_of-requires c = record {
  room = rw c.deref-2.ensures.value (rw c.deref.ensures.value c.self.invariant);
  row = omega (arith, c.requires, ap length c.deref-2.ensures.value, length-rows_within c.self.inside.room c.self.inside.lengths.items c.self.inside.bytes.items, ap length c.self.view_is);
}

pub returns : goal.returns
returns c =
    c.text_of.ensures
    ∙ ap (λ ns. get_or (rows_within c.self.inside.room ns c.deref.result.now) c.args.row []) c.deref-2.ensures.value
    ∙ ap (λ bytes. get_or (rows_within c.self.inside.room c.self.inside.lengths.items bytes) c.args.row []) c.deref.ensures.value
    ∙ ap (λ rows. get_or rows c.args.row []) c.self.view_is
