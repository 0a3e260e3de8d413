use Rattle.std.proofs.Common.{ap, arith, sym, ◌∙◌}
use Rattle.j_indices.specs.Numbers.{whole_numbers}
use Rattle.j_indices.proofs.Readings.{whole_wholes, whole_bits, whole_bytes, whole_boxes}
use Rattle.j_indices.proofs.numbers.numbers_of.Goals as goal

pub returns-in-Wholes-clause-numbers : goal.returns-in-Wholes-clause-numbers
returns-in-Wholes-clause-numbers c = ap whole_numbers (sym c.in-Wholes.ensures.atoms) ∙ whole_wholes c.in-Wholes.v.now

pub returns-in-Bits-clause-numbers : goal.returns-in-Bits-clause-numbers
returns-in-Bits-clause-numbers c = ap whole_numbers (sym c.in-Bits.ensures.atoms) ∙ whole_bits c.in-Bits.v.now

pub returns-in-Bytes-clause-numbers : goal.returns-in-Bytes-clause-numbers
returns-in-Bytes-clause-numbers c = ap whole_numbers (sym c.in-Bytes.ensures.atoms) ∙ whole_bytes c.in-Bytes.field-0.now (omega (arith, c.in-Bytes.len_at_least))

pub returns-in-Boxes-clause-numbers : goal.returns-in-Boxes-clause-numbers
returns-in-Boxes-clause-numbers c = ap whole_numbers (sym c.in-Boxes.ensures.atoms) ∙ whole_boxes c.in-Boxes.field-0.now (omega (arith, c.in-Boxes.len_at_least))
