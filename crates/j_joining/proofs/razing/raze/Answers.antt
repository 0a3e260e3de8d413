use Rattle.j_joining.proofs.Razed.{raze_boxes}
use Rattle.j_joining.proofs.razing.raze.Goals as goal

pub returns-in-Boxes : goal.returns-in-Boxes
returns-in-Boxes c = raze_boxes c.args.y.now c.in-Boxes.v.now c.all_joined.result c.in-Boxes.ensures.atoms c.in-Boxes.ensures.kind c.all_joined.ensures
