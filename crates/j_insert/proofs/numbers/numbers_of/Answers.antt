use Rattle.std.proofs.Common.{arith}
use Rattle.j_insert.proofs.Reading.{numbers_seen, bits_seen, bytes_seen, boxes_seen}
use Rattle.j_insert.proofs.numbers.numbers_of.Goals as goal

pub returns-in-Wholes-clause-value : goal.returns-in-Wholes-clause-value
returns-in-Wholes-clause-value c = numbers_seen c.args.y.now c.in-Wholes.v.now c.in-Wholes.ensures.atoms

pub returns-in-Bits-clause-value : goal.returns-in-Bits-clause-value
returns-in-Bits-clause-value c = bits_seen c.args.y.now c.in-Bits.v.now c.in-Bits.ensures.atoms

pub returns-in-Bytes-clause-value : goal.returns-in-Bytes-clause-value
returns-in-Bytes-clause-value c = bytes_seen c.args.y.now c.in-Bytes.field-0.now (omega (arith, c.in-Bytes.len_at_least)) c.in-Bytes.ensures.atoms

pub returns-in-Boxes-clause-value : goal.returns-in-Boxes-clause-value
returns-in-Boxes-clause-value c = boxes_seen c.args.y.now c.in-Boxes.field-0.now (omega (arith, c.in-Boxes.len_at_least)) c.in-Boxes.ensures.atoms
