use Rattle.std.proofs.Common.{◌∙◌}
use Rattle.j_definitions.specs.Array.{number, byte}
use Rattle.j_noun.proofs.Ordering.{items_order, bit_items_order}
use Rattle.j_noun.proofs.noun.Noun.order_items.Goals as goal

pub returns-in-Wholes : goal.returns-in-Wholes
returns-in-Wholes c =
    c.order_runs.ensures ∙ items_order number c.args.self.now c.in-Wholes.numbers.now c.args.i c.args.j c.tally-count.result c.in-Wholes.ensures.noun c.in-Wholes.ensures.atoms c.tally-count.ensures c.requires.first

pub returns-in-Bits : goal.returns-in-Bits
returns-in-Bits c =
    c.order_runs-in-Bits.ensures ∙ bit_items_order c.args.self.now c.in-Bits.bits.now c.args.i c.args.j c.tally-count.result c.in-Bits.ensures.noun c.in-Bits.ensures.atoms c.tally-count.ensures c.requires.first

pub returns-in-Bytes : goal.returns-in-Bytes
returns-in-Bytes c =
    c.order_runs-in-Bytes.ensures ∙ items_order byte c.args.self.now c.in-Bytes.bytes.now c.args.i c.args.j c.tally-count.result c.in-Bytes.ensures.noun c.in-Bytes.ensures.atoms c.tally-count.ensures c.requires.first
