use Rattle.std.proofs.Common.{◌≡◌, ◌<◌, ℤ, List, arith, sym, ap, ◌∙◌, map}
use Rattle.j_definitions.specs.Array.{number, tally}
use Rattle.std.specs.Cmp.Lexicographic.{pointwise}
use Rattle.std.specs.Ordering.{int_eq}
use Rattle.j_search.proofs.Grading.{not_false}
use Rattle.j_search.proofs.Listed.{same_numbers, sorted_of}
use Rattle.j_search.proofs.sorting.sorted_list.Goals as goal

pub returns : goal.returns
returns c =
    let a : List ℤ = c.in-Wholes.a.now in
    let b : List ℤ = c.in-Wholes-view.b.now in
    let same : a ≡ b = same_numbers a b (not_false (pointwise int_eq a b) (sym c.ne.ensures ∙ c.if-ne.false)) in
    let some : 0 < tally c.args.x.now.shape = omega (arith, c.requires.some, c.requires.same) in
    sorted_of c.args.direction c.args.x.now c.args.y.now b c.in_ok-numbers.numbers.items c.in-Wholes.ensures.noun c.in-Wholes.ensures.kind (ap (map number) (sym same) ∙ c.in-Wholes.ensures.atoms) c.in-Wholes-view.ensures.atoms
    c.in-Wholes-view.ensures.noun.as_many c.requires.same (sym c.if-size_of_items-ne1.false ∙ c.size_of_items.ensures some) (sym c.if-size_of_items-ne1-2.false ∙ c.size_of_items-else-size_of_items-ne1.ensures c.requires.some)
    c.in_ok-numbers.ensures.within c.in_ok-numbers.ensures.order
