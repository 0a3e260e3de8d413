use Rattle.std.proofs.Common.{[], pos, refl, sym}
use Rattle.std.specs.Ordering.{nat_cmp, int_cmp}
use Rattle.j_definitions.specs.Array.{number, byte}
use Rattle.j_search.proofs.Ranks.{ok_same}
use Rattle.j_search.proofs.Grading.{order_is, all_runs, bit_order, no_atoms}
use Rattle.j_search.proofs.grades.order_of.Goals as goal

pub graded-requires : goal.graded-requires
graded-requires c =
    all_runs number c.args.y.now c.in-Wholes.v.now c.size_of_items-size.result c.tally-count.result c.in-Wholes.ensures.atoms c.in-Wholes.ensures.noun.as_many c.tally-count.ensures c.size_of_items-size.ensures

pub returns-in-Wholes-clause-order : goal.returns-in-Wholes-clause-order
returns-in-Wholes-clause-order c =
    ok_same c.graded.result
    (order_is number int_cmp (λ _ _. refl) c.args.y.now c.in-Wholes.v.now c.size_of_items-size.result c.in-Wholes.ensures.atoms c.args.direction c.tally-count.result c.tally-count.ensures c.size_of_items-size.ensures) c.graded.ensures.order

pub graded-requires-in-Bits : goal.graded-requires-in-Bits
graded-requires-in-Bits c =
    all_runs (λ b. number (pos b)) c.args.y.now c.in-Bits.v.now c.size_of_items-size.result c.tally-count.result c.in-Bits.ensures.atoms c.in-Bits.ensures.noun.as_many c.tally-count.ensures c.size_of_items-size.ensures

pub returns-in-Bits-clause-order : goal.returns-in-Bits-clause-order
returns-in-Bits-clause-order c =
    ok_same c.graded-in-Bits.result
    (order_is (λ b. number (pos b)) nat_cmp bit_order c.args.y.now c.in-Bits.v.now c.size_of_items-size.result c.in-Bits.ensures.atoms c.args.direction c.tally-count.result c.tally-count.ensures c.size_of_items-size.ensures) c.graded-in-Bits.ensures.order

pub graded-requires-in-Bytes : goal.graded-requires-in-Bytes
graded-requires-in-Bytes c =
    all_runs byte c.args.y.now c.in-Bytes.v.now c.size_of_items-size.result c.tally-count.result c.in-Bytes.ensures.atoms c.in-Bytes.ensures.noun.as_many c.tally-count.ensures c.size_of_items-size.ensures

pub returns-in-Bytes-clause-order : goal.returns-in-Bytes-clause-order
returns-in-Bytes-clause-order c =
    ok_same c.graded-in-Bytes.result
    (order_is byte nat_cmp (λ _ _. refl) c.args.y.now c.in-Bytes.v.now c.size_of_items-size.result c.in-Bytes.ensures.atoms c.args.direction c.tally-count.result c.tally-count.ensures c.size_of_items-size.ensures) c.graded-in-Bytes.ensures.order

pub returns-in-Boxes-clause-order : goal.returns-in-Boxes-clause-order
returns-in-Boxes-clause-order c =
    ok_same c.graded-in-Boxes.result
    (order_is byte nat_cmp (λ _ _. refl) c.args.y.now [] c.size_of_items-size.result (sym (no_atoms c.args.y.now c.in-Boxes.ensures.kind c.requires)) c.args.direction c.tally-count.result c.tally-count.ensures c.size_of_items-size.ensures) c.graded-in-Boxes.ensures.order
