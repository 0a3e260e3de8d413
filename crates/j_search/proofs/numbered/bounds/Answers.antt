use Rattle.std.proofs.Common.{arith, take_all, subst, to_z, of_z, w64}
use Rattle.std.specs.List.{All}
use Rattle.std.proofs.lemmas.Int.{ints}
use Rattle.j_search.specs.Ranged.{IsBetween}
use Rattle.j_search.proofs.Tables.{between_more}
use Rattle.j_search.proofs.numbered.bounds.Goals as goal

pub loop-item-preserved : goal.loop-item-preserved
loop-item-preserved g c =
    between_more g.T.Numbered.number c.args.items.now c.loop-item.item-index c.item-item.result (to_z w64 c.loop-item.low-bits) (to_z w64 c.loop-item.high-bits) (to_z w64 (of_z w64 c.lesser-low.result)) (to_z w64 (of_z w64 c.greater-high.result))
    c.loop-item-test.true c.item-item.is c.loop-item.invariant
    (omega (arith, ints, c.lesser-low.ensures.left, c.lesser-low.type_inv))
    (omega (arith, ints, c.lesser-low.ensures.right, c.lesser-low.type_inv, c.number-number.ensures, c.number-number.type_inv))
    (omega (arith, ints, c.greater-high.ensures.left, c.greater-high.type_inv))
    (omega (arith, ints, c.greater-high.ensures.right, c.greater-high.type_inv, c.number-number.ensures, c.number-number.type_inv))

pub returns : goal.returns
returns g c =
    subst (All (IsBetween g.T.Numbered.number (to_z w64 c.loop-item.low-bits) (to_z w64 c.loop-item.high-bits))) (take_all c.loop-item.item-index c.args.items.now c.loop-item-test.false) c.loop-item.invariant
