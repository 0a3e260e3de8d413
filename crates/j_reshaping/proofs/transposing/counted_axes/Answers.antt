use Rattle.j_reshaping.proofs.Counting.{bytes_count, boxes_count}
use Rattle.j_reshaping.proofs.transposing.counted_axes.Goals as goal

pub returns-in-Bytes : goal.returns-in-Bytes
returns-in-Bytes c = bytes_count c.args.n _ _ _ c.in-Bytes.ensures.atoms c.has_no_atoms.ensures c.if-has_no_atoms.false

pub returns-in-Boxes : goal.returns-in-Boxes
returns-in-Boxes c = boxes_count c.args.n _ _ _ c.in-Boxes.ensures.atoms c.has_no_atoms.ensures c.if-has_no_atoms.false
