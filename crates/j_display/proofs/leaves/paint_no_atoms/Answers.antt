use Rattle.std.proofs.Common.{map, ap, ◌∙◌, sym}
use Rattle.j_display.specs.Rows.{padded}
use Rattle.j_display.specs.Blocks.{extended}
use Rattle.j_display.proofs.Blocks.{extended-nil}
use Rattle.j_display.proofs.LeafRows.{no_rows_of}
use Rattle.j_display.proofs.leaves.paint_no_atoms.Goals as goal

pub returns-then-axes-ne1-clause-canvas : goal.returns-then-axes-ne1-clause-canvas
returns-then-axes-ne1-clause-canvas c =
    let none = no_rows_of c.args.axes.now (λ e. c.if-axes-ne1.true e) in
    sym (ap (λ rows. extended c.args.canvas.now c.args.row (map (padded c.args.width) rows)) none ∙ extended-nil c.args.canvas.now c.args.row)
