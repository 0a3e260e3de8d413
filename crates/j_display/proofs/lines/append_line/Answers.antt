use Rattle.std.proofs.Common.{arith, ap, ◌∙◌, length}
use Rattle.std.proofs.lemmas.List.{length-append}
use Rattle.j_display.specs.Lines.{row_at}
use Rattle.j_display.proofs.lines.append_line.Goals as goal

pub push_reserved-requires : goal.push_reserved-requires
push_reserved-requires c =
    let size = ap length c.append_row.ensures.items ∙ length-append c.args.into.now.items (row_at c.args.lines c.args.k) in
    omega arith
