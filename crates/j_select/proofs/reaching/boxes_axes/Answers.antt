use Rattle.std.proofs.Common.{◌∙◌, ap, sym, subst, map, List, ℕ, Result, Ok, Err}
use Rattle.std.specs.declared.alloc.Global.{Global}
use Rattle.std.specs.declared.vec.Vec.{Vec}
use Rattle.j_definitions.specs.Array.{Array, boxed}
use Rattle.j_definitions.specs.Cells.{in_order}
use Rattle.j_definitions.specs.declared.Fault.{Fault}
use Rattle.j_noun.specs.declared.refusal.Refusal.{Refusal}
use Rattle.j_noun.specs.Refused.{OrWantingAs}
use Rattle.j_rank.specs.Assembly.{common_shape}
use Rattle.j_select.specs.Amending.{outline_at}
use Rattle.j_indices.specs.Numbers.{and_then}
use Rattle.j_indices.proofs.Answering.{refused}
use Rattle.j_indices.proofs.Chosen.{map_map}
use Rattle.j_select.proofs.Reached.{alone, shape_of_cells, common_alone}
use Rattle.j_select.proofs.reaching.boxes_axes.Goals as goal

-- the axes of each
abbrev each : List Array → List ℕ → List (Result Array Fault)
each held s = map (λ (a : Array). outline_at s (boxed a)) held

pub returns-in-Ok : goal.returns-in-Ok
returns-in-Ok c =
    let held : List Array = c.args.held.now in
    ap (λ (rs : List (Result Array Fault)). and_then (in_order rs) shape_of_cells) (map_map (outline_at c.args.y.now.shape) boxed held)
    ∙ ap (λ (s : List ℕ). and_then (in_order (each held s)) shape_of_cells) (sym c.axes.ensures.value) ∙ ap (λ (r : Result (List Array) Fault). and_then r shape_of_cells) c.in-Ok.ensures
    ∙ ap (λ (s : List ℕ). let r : Result (List ℕ) Fault = Ok s in r) (common_alone c.in-Ok.blanks.items ∙ ap (λ (xs : List Array). common_shape xs) (sym c.deref.ensures.value) ∙ sym c.common_shape.ensures.value)

pub returns-in-Err : goal.returns-in-Err
returns-in-Err c =
    let held : List Array = c.args.held.now in
    let given : Result (Vec Array Global) Refusal = Err c.in-Err.e in
    let shapes : Vec Array Global → List Array = λ v. map alone v.items in
    refused {B = List ℕ} shapes (in_order (map (outline_at c.args.y.now.shape) (map boxed held))) shape_of_cells c.in-Err.e
    (subst (λ (said : Result (List Array) Fault). OrWantingAs shapes said given)
    (ap (λ (s : List ℕ). in_order (each held s)) c.axes.ensures.value ∙ ap (λ (rs : List (Result Array Fault)). in_order rs) (sym (map_map (outline_at c.args.y.now.shape) boxed held))) c.in-Err.ensures)
