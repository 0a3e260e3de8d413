use Rattle.std.proofs.Common.{◌∷◌, [], ap, ◌∙◌, sym}
use Rattle.j_search.proofs.Grading.{graded_many, one_axis, grade_answer}
use Rattle.j_search.proofs.grades.grade.Goals as goal

pub make-requires-clause-as_many : goal.make-requires-clause-as_many
make-requires-clause-as_many c =
    graded_many c.args.direction c.args.y.now c.in_ok-numbers.numbers.items c.deref.result.now c.in_ok-numbers.ensures (c.deref.ensures.value ∙ c.in_ok-places.ensures.order)
    ∙ sym (one_axis c.args.y.now c.shape_of.result (c.shape_of.ensures ∙ ap (λ n. n ∷ []) c.tally-count.ensures))

pub returns : goal.returns
returns c =
    grade_answer c.args.direction c.args.y.now c.make.result c.shape_of.result c.in_ok-numbers.numbers c.deref.result.now (sym c.if-has_boxes.ensures) (c.shape_of.ensures ∙ ap (λ n. n ∷ []) c.tally-count.ensures)
    c.in_ok-numbers.ensures (c.deref.ensures.value ∙ c.in_ok-places.ensures.order) c.make.ensures.limited
