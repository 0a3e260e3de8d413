use Rattle.std.proofs.Common.{length, sym, ap}
use Rattle.j_display.specs.Rows.{width_of}
use Rattle.j_display.proofs.LeafRows.{no_rows_of, one_row_of}
use Rattle.j_display.proofs.measure.measure_no_atoms.Goals as goal

pub returns-then-axes-eq1 : goal.returns-then-axes-eq1
returns-then-axes-eq1 c =
    let one = one_row_of c.args.axes.now (c.if-axes-eq1.true) in
    record { width = sym (ap width_of one); height = sym (ap (λ rows. length rows) one) }

pub returns : goal.returns
returns c =
    let none = no_rows_of c.args.axes.now (λ e. c.if-axes-eq1.false e) in
    record { width = sym (ap width_of none); height = sym (ap (λ rows. length rows) none) }
