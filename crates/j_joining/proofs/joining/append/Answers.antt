use Rattle.std.proofs.Common.{◌≡◌, ◌∙◌, ℕ, List, ap, sym, subst, Some}
use Rattle.j_definitions.specs.Array.{Array}
use Rattle.j_joining.specs.Brought.{IsGroup, left_group, right_group, both_groups}
use Rattle.j_joining.proofs.Beside.{kind_by_items, append_made, left_is_group, right_is_group, left_joins, right_joins}
use Rattle.j_joining.proofs.joining.append.Goals as goal

pub grouped-requires-clause-left : goal.grouped-requires-clause-left
grouped-requires-clause-left c =
    let x : Array = c.args.x.now in
    let y : Array = c.args.y.now in
    let kind = kind_by_items x y c.axes-s.result.now c.axes-t.result.now c.item_axes.result.now c.item_axes-2.result.now c.kind_beside.result (Some c.in-Some.kind) (sym c.in-Some.is) c.kind_beside.ensures c.axes-s.ensures.value c.axes-t.ensures.value c.item_axes.ensures c.item_axes-2.ensures in
    let group : c.axes.result.now ≡ left_group x.shape y.shape = c.axes.ensures.value ∙ c.groups_beside-left.ensures.left ∙ ap (λ s. left_group s c.axes-t.result.now) c.axes-s.ensures.value ∙ ap (left_group x.shape) c.axes-t.ensures.value in
    subst (λ (s : List ℕ). IsGroup c.in-Some.kind x s) (sym group) (left_is_group c.in-Some.kind x y c.view.ensures.noun c.view-2.ensures.noun (left_joins x y c.in-Some.kind kind))

pub grouped-requires-clause-right : goal.grouped-requires-clause-right
grouped-requires-clause-right c =
    let x : Array = c.args.x.now in
    let y : Array = c.args.y.now in
    let kind = kind_by_items x y c.axes-s.result.now c.axes-t.result.now c.item_axes.result.now c.item_axes-2.result.now c.kind_beside.result (Some c.in-Some.kind) (sym c.in-Some.is) c.kind_beside.ensures c.axes-s.ensures.value c.axes-t.ensures.value c.item_axes.ensures c.item_axes-2.ensures in
    let group : c.axes-2.result.now ≡ right_group x.shape y.shape = c.axes-2.ensures.value ∙ c.groups_beside-left.ensures.right ∙ ap (λ s. right_group s c.axes-t.result.now) c.axes-s.ensures.value ∙ ap (right_group x.shape) c.axes-t.ensures.value in
    subst (λ (s : List ℕ). IsGroup c.in-Some.kind y s) (sym group) (right_is_group c.in-Some.kind x y c.view.ensures.noun c.view-2.ensures.noun (right_joins x y c.in-Some.kind kind))

pub returns : goal.returns
returns c =
    let x : Array = c.args.x.now in
    let y : Array = c.args.y.now in
    let kind = kind_by_items x y c.axes-s.result.now c.axes-t.result.now c.item_axes.result.now c.item_axes-2.result.now c.kind_beside.result (Some c.in-Some.kind) (sym c.in-Some.is) c.kind_beside.ensures c.axes-s.ensures.value c.axes-t.ensures.value c.item_axes.ensures c.item_axes-2.ensures in
    append_made x y c.in-Some.kind c.grouped.result c.groups_beside-left.result.both c.axes.result.now c.axes-2.result.now kind c.view.ensures.noun c.view-2.ensures.noun
    (c.groups_beside-left.ensures.both ∙ ap (λ s. both_groups s c.axes-t.result.now) c.axes-s.ensures.value ∙ ap (both_groups x.shape) c.axes-t.ensures.value)
    (c.axes.ensures.value ∙ c.groups_beside-left.ensures.left ∙ ap (λ s. left_group s c.axes-t.result.now) c.axes-s.ensures.value ∙ ap (left_group x.shape) c.axes-t.ensures.value)
    (c.axes-2.ensures.value ∙ c.groups_beside-left.ensures.right ∙ ap (λ s. right_group s c.axes-t.result.now) c.axes-s.ensures.value ∙ ap (right_group x.shape) c.axes-t.ensures.value)
    c.grouped.ensures
