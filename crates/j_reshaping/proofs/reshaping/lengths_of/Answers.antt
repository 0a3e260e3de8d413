use Rattle.j_reshaping.proofs.Shapes.{bytes_fault, boxes_fault}
use Rattle.j_reshaping.proofs.reshaping.lengths_of.Goals as goal

pub returns-in-Bytes : goal.returns-in-Bytes
returns-in-Bytes c = bytes_fault _ _ _ c.in-Bytes.ensures.atoms c.has_no_atoms.ensures c.if-has_no_atoms.false

pub returns-in-Boxes : goal.returns-in-Boxes
returns-in-Boxes c = boxes_fault _ _ _ c.in-Boxes.ensures.atoms c.has_no_atoms.ensures c.if-has_no_atoms.false
