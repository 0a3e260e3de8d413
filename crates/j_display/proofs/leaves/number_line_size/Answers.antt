use Rattle.std.proofs.Common.{arith}
use Rattle.j_display.proofs.LeafRows.{numbers_size, number_widths_few}
use Rattle.j_display.proofs.leaves.number_line_size.Goals as goal

pub row_bytes-requires : goal.row_bytes-requires
row_bytes-requires c = record { few = number_widths_few c.args.lines c.args.count c.requires.kind c.requires.widths c.requires.whole c.requires.narrow }

pub returns : goal.returns
returns c = λ k h. omega (arith, numbers_size c.args.lines c.args.count k c.requires.kind c.requires.widths c.requires.whole c.requires.column h, c.row_bytes.ensures.value)
