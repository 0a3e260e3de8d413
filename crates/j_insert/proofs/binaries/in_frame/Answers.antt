use Rattle.j_rank.proofs.Made.{answers_as}
use Rattle.j_insert.specs.Listed.{listed}
use Rattle.j_insert.proofs.Binary.{bits_many, frame_made}
use Rattle.j_insert.proofs.binaries.in_frame.Goals as goal

pub make-requires-clause-as_many : goal.make-requires-clause-as_many
make-requires-clause-as_many c = bits_many (listed c.args.numbers) c.args.frame c.in_ok-shape.shape c.in_ok-bits.bits.items c.most_digits-most.result c.requires c.in_ok-bits.ensures.digits c.in_ok-shape.ensures.ok

pub returns : goal.returns
returns c =
    answers_as _ _ c.make.result (frame_made (listed c.args.numbers) c.args.frame c.in_ok-shape.shape c.in_ok-bits.bits.items c.most_digits-most.result c.most_digits-most.ensures c.in_ok-bits.ensures.digits c.in_ok-shape.ensures.ok) c.make.ensures.limited
