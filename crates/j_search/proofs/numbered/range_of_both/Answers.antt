use Rattle.std.proofs.Common.{arith, to_z, of_z, w64}
use Rattle.std.proofs.lemmas.Int.{ints}
use Rattle.j_search.proofs.Tables.{range_both}
use Rattle.j_search.proofs.numbered.range_of_both.Goals as goal

pub returns : goal.returns
returns g c =
    range_both g.T.Numbered.number c.args.items.now c.args.cells.now c.bounds-low.result.0 c.bounds-low.result.1 c.bounds-least.result.0 c.bounds-least.result.1 (to_z w64 (of_z w64 c.lesser.result)) (to_z w64 (of_z w64 c.greater.result))
    c.args.most c.range_between.result c.bounds-low.ensures c.bounds-least.ensures
    (omega (arith, ints, c.lesser.ensures.left, c.lesser.type_inv, c.bounds-low.type_inv))
    (omega (arith, ints, c.lesser.ensures.right, c.lesser.type_inv, c.bounds-least.type_inv))
    (omega (arith, ints, c.greater.ensures.left, c.greater.type_inv, c.bounds-low.type_inv))
    (omega (arith, ints, c.greater.ensures.right, c.greater.type_inv, c.bounds-least.type_inv)) c.range_between.ensures
