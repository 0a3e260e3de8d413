use Rattle.std.proofs.Common.{arith, sym, ◌∙◌}
use Rattle.j_definitions.specs.Array.{arrays_match}
use Rattle.j_definitions.proofs.Laws.{level_falls, pointwise_stops, pointwise_ended}
use Rattle.j_noun.proofs.Matching.{boxes_arrays}
use Rattle.j_noun.proofs.noun.Noun.+matches.Goals as goal

pub matches-requires : goal.matches-requires
matches-requires t c =
    let below = level_falls c.in-Boxes.x.now c.loop-i.i c.index-x-i.result c.loop-i-test.true in
    let lower = rw (← c.index-x-i.is, c.in-Boxes.ensures.atoms) at below in
    let h = c.decreases in
    omega arith

pub returns-then-not-matches : goal.returns-then-not-matches
returns-then-not-matches t c =
    sym (boxes_arrays c.args.self.now c.args.other.now c.in-Boxes.x.now c.in-Boxes-view.y.now c.in-Boxes.ensures.atoms c.in-Boxes-view.ensures.atoms (sym c.if-not-has_shape_of.ensures)
    ∙ c.loop-i.invariant
    ∙ pointwise_stops arrays_match c.in-Boxes.x.now c.in-Boxes-view.y.now c.loop-i.i c.index-x-i.result c.index-y-i.result
    c.loop-i-test.true (omega arith) c.index-x-i.is c.index-y-i.is c.if-not-matches.ensures)

pub returns-after-loop-i : goal.returns-after-loop-i
returns-after-loop-i t c =
    sym (boxes_arrays c.args.self.now c.args.other.now c.in-Boxes.x.now c.in-Boxes-view.y.now c.in-Boxes.ensures.atoms c.in-Boxes-view.ensures.atoms (sym c.if-not-has_shape_of.ensures)
    ∙ c.loop-i.invariant
    ∙ pointwise_ended arrays_match c.in-Boxes.x.now c.in-Boxes-view.y.now c.loop-i.i c.loop-i-test.false (omega arith))
