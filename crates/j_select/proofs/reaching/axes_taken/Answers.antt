use Rattle.std.proofs.Common.{◌<◌, ◌∙◌, ap, arith, length, subst, sym}
use Rattle.std.proofs.lemmas.Bool.{eqb-false}
use Rattle.std.proofs.lemmas.List.{length-map}
use Rattle.j_definitions.specs.Array.{boxed}
use Rattle.j_noun.specs.Refused.{OrWanting}
use Rattle.j_select.proofs.Reached.{axes_of_boxes}
use Rattle.j_select.proofs.reaching.axes_taken.Goals as goal

pub returns-in-Boxes : goal.returns-in-Boxes
returns-in-Boxes c =
    let differ = eqb-false (length c.args.m.now.atoms) 0 (sym c.has_no_atoms-is_bare.ensures ∙ c.if-is_bare.false) in
    let some : 0 < length c.in-Boxes.held.now = omega (arith, differ, length-map c.in-Boxes.held.now boxed, ap length c.in-Boxes.ensures.atoms) in
    subst (λ r. OrWanting r c.boxes_axes.result) (sym (axes_of_boxes c.args.m.now.kind c.args.m.now.atoms c.args.y.now.shape c.in-Boxes.held.now c.in-Boxes.ensures.kind c.in-Boxes.ensures.atoms some)) c.boxes_axes.ensures
