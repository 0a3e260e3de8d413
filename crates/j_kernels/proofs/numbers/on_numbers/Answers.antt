use Rattle.j_kernels.proofs.Storage.{wrong_views}
use Rattle.j_kernels.proofs.numbers.on_numbers.Goals as goal

pub returns-in-Bytes : goal.returns-in-Bytes
returns-in-Bytes g c = wrong_views g.V.NumberVerb.of c.args.left c.args.right c.args.x c.args.y c.args.n c.requires.left c.requires.right (rw (c.in-Bytes.is) tt) c.not_numbers-in-Bytes.result c.not_numbers-in-Bytes.ensures

pub returns-in-Boxes : goal.returns-in-Boxes
returns-in-Boxes g c = wrong_views g.V.NumberVerb.of c.args.left c.args.right c.args.x c.args.y c.args.n c.requires.left c.requires.right (rw (c.in-Boxes.is) tt) c.not_numbers-in-Boxes.result c.not_numbers-in-Boxes.ensures

pub returns-in-Bytes-y : goal.returns-in-Bytes-y
returns-in-Bytes-y g c = wrong_views g.V.NumberVerb.of c.args.left c.args.right c.args.x c.args.y c.args.n c.requires.left c.requires.right (rw (c.in-Wholes.is, c.in-Bytes-y.is) tt) c.not_numbers.result c.not_numbers.ensures

pub returns-in-Boxes-y : goal.returns-in-Boxes-y
returns-in-Boxes-y g c = wrong_views g.V.NumberVerb.of c.args.left c.args.right c.args.x c.args.y c.args.n c.requires.left c.requires.right (rw (c.in-Wholes.is, c.in-Boxes-y.is) tt) c.not_numbers-in-Boxes-y.result c.not_numbers-in-Boxes-y.ensures

pub returns-in-Bytes-y-2 : goal.returns-in-Bytes-y-2
returns-in-Bytes-y-2 g c = wrong_views g.V.NumberVerb.of c.args.left c.args.right c.args.x c.args.y c.args.n c.requires.left c.requires.right (rw (c.in-Bits.is, c.in-Bytes-y-2.is) tt) c.not_numbers-in-Bytes-y-2.result c.not_numbers-in-Bytes-y-2.ensures

pub returns-in-Boxes-y-2 : goal.returns-in-Boxes-y-2
returns-in-Boxes-y-2 g c = wrong_views g.V.NumberVerb.of c.args.left c.args.right c.args.x c.args.y c.args.n c.requires.left c.requires.right (rw (c.in-Bits.is, c.in-Boxes-y-2.is) tt) c.not_numbers-in-Boxes-y-2.result c.not_numbers-in-Boxes-y-2.ensures
