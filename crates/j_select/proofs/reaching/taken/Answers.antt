use Rattle.std.proofs.Common.{◌<◌, ◌∙◌, ap, arith, length, map, subst, sym, ℕ, List}
use Rattle.std.proofs.lemmas.Bool.{eqb-false}
use Rattle.std.proofs.lemmas.List.{length-map}
use Rattle.j_definitions.specs.Array.{boxed}
use Rattle.j_definitions.specs.Cells.{in_order}
use Rattle.j_noun.specs.Refused.{OrWanting}
use Rattle.j_rank.specs.Assembly.{assemble}
use Rattle.j_indices.specs.Indexing.{from_at}
use Rattle.j_indices.specs.Numbers.{and_then}
use Rattle.j_select.proofs.Reached.{taken_of_boxes}
use Rattle.j_select.proofs.reaching.taken.Goals as goal

pub returns-in-Boxes : goal.returns-in-Boxes
returns-in-Boxes c =
    let differ = eqb-false (length c.args.m.now.atoms) 0 (sym c.has_no_atoms-is_bare.ensures ∙ c.if-is_bare.false) in
    let held = c.in-Boxes.held.now in
    let some : 0 < length held = omega (arith, differ, length-map held boxed, ap length c.in-Boxes.ensures.atoms) in
    subst (λ r. OrWanting r c.boxes_taken.result)
    (sym (taken_of_boxes c.args.m.now.kind c.args.m.now.atoms c.args.m.now.shape c.args.y.now held c.in-Boxes.ensures.kind c.in-Boxes.ensures.atoms some))
    (subst (λ (f : List ℕ). OrWanting (and_then (in_order (map (λ b. from_at b c.args.y.now) (map boxed held))) (assemble f)) c.boxes_taken.result) c.shape.ensures c.boxes_taken.ensures)
