use Rattle.std.proofs.Common.{◌≡◌, ◌∷◌, ◌++◌, ◌∙◌, ℕ, List, ap, sym, arith, subst, length, Some}
use Rattle.j_definitions.specs.Array.{Array}
use Rattle.j_joining.specs.Brought.{IsGroup, common_beside}
use Rattle.j_joining.proofs.Laminated.{kind_by_axes, common_as, laminate_beyond, left_across, right_across, laminate_made}
use Rattle.j_joining.proofs.joining.laminate.Goals as goal

pub returns-in_default-extended : goal.returns-in_default-extended
returns-in_default-extended c =
    let x : Array = c.args.x.now in
    let y : Array = c.args.y.now in
    let kind = kind_by_axes x y c.axes-s.result.now c.axes-t.result.now c.kind_beside.result (Some c.in-Some.kind) (sym c.in-Some.is) c.kind_beside.ensures c.axes-s.ensures.value c.axes-t.ensures.value in
    let common : c.axes.result.now ≡ common_beside x.shape y.shape = common_as x y c.axes-s.result.now c.axes-t.result.now c.common_beside-common.result c.axes.result.now c.axes.ensures.value c.common_beside-common.ensures c.axes-s.ensures.value c.axes-t.ensures.value in
    laminate_beyond x y c.in-Some.kind kind (omega (arith, c.in_default-extended.ensures.err, ap length common, ap length c.shape_of.ensures))

pub grouped-requires-clause-left : goal.grouped-requires-clause-left
grouped-requires-clause-left c =
    let x : Array = c.args.x.now in
    let y : Array = c.args.y.now in
    let kind = kind_by_axes x y c.axes-s.result.now c.axes-t.result.now c.kind_beside.result (Some c.in-Some.kind) (sym c.in-Some.is) c.kind_beside.ensures c.axes-s.ensures.value c.axes-t.ensures.value in
    let common = common_as x y c.axes-s.result.now c.axes-t.result.now c.common_beside-common.result c.axes-2.result.now c.axes-2.ensures.value c.common_beside-common.ensures c.axes-s.ensures.value c.axes-t.ensures.value in
    subst (λ (s : List ℕ). IsGroup c.in-Some.kind x s) (sym common) (left_across x y c.in-Some.kind kind c.view.ensures.noun c.view-2.ensures.noun)

pub grouped-requires-clause-right : goal.grouped-requires-clause-right
grouped-requires-clause-right c =
    let x : Array = c.args.x.now in
    let y : Array = c.args.y.now in
    let kind = kind_by_axes x y c.axes-s.result.now c.axes-t.result.now c.kind_beside.result (Some c.in-Some.kind) (sym c.in-Some.is) c.kind_beside.ensures c.axes-s.ensures.value c.axes-t.ensures.value in
    let common = common_as x y c.axes-s.result.now c.axes-t.result.now c.common_beside-common.result c.axes-3.result.now c.axes-3.ensures.value c.common_beside-common.ensures c.axes-s.ensures.value c.axes-t.ensures.value in
    subst (λ (s : List ℕ). IsGroup c.in-Some.kind y s) (sym common) (right_across x y c.in-Some.kind kind c.view.ensures.noun c.view-2.ensures.noun)

pub returns : goal.returns
returns c =
    let x : Array = c.args.x.now in
    let y : Array = c.args.y.now in
    let kind = kind_by_axes x y c.axes-s.result.now c.axes-t.result.now c.kind_beside.result (Some c.in-Some.kind) (sym c.in-Some.is) c.kind_beside.ensures c.axes-s.ensures.value c.axes-t.ensures.value in
    let whole = common_as x y c.axes-s.result.now c.axes-t.result.now c.common_beside-common.result c.axes.result.now c.axes.ensures.value c.common_beside-common.ensures c.axes-s.ensures.value c.axes-t.ensures.value in
    let left = common_as x y c.axes-s.result.now c.axes-t.result.now c.common_beside-common.result c.axes-2.result.now c.axes-2.ensures.value c.common_beside-common.ensures c.axes-s.ensures.value c.axes-t.ensures.value in
    let right = common_as x y c.axes-s.result.now c.axes-t.result.now c.common_beside-common.result c.axes-3.result.now c.axes-3.ensures.value c.common_beside-common.ensures c.axes-s.ensures.value c.axes-t.ensures.value in
    laminate_made x y c.in-Some.kind c.grouped.result c.in-Ok.both c.axes-2.result.now c.axes-3.result.now kind c.view.ensures.noun c.view-2.ensures.noun
    (c.in-Ok.ensures.ok ∙ ap (λ s. s ++ c.axes.result.now) c.shape_of.ensures ∙ ap (λ r. 2 ∷ r) whole) left right c.grouped.ensures
