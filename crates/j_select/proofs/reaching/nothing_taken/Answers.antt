use Rattle.std.proofs.Common.{◌≡◌, ◌++◌, ◌*◌, ◌∙◌, [], ap, arith, rules, map, pos, length}
use Rattle.j_definitions.specs.Array.{number, product}
use Rattle.j_rank.proofs.Products.{product_append}
use Rattle.j_select.proofs.reaching.nothing_taken.Goals as goal

pub make-requires-clause-as_many : goal.make-requires-clause-as_many
make-requires-clause-as_many c =
    let none : c.in_ok-none.none.items ≡ [] = search rules in
    let zero : product c.args.m.now.shape ≡ 0 = omega (arith, c.view.ensures.noun.as_many, c.requires) in
    let shape : c.in-Ok.shape ≡ c.args.m.now.shape ++ c.axes_of_fill.result.now = c.in-Ok.ensures.ok ∙ ap (λ s. s ++ c.axes_of_fill.result.now) c.shape.ensures in
    omega (
      arith,
      ap (λ bs. length (map (λ b. number (pos b)) bs)) none,
      ap product shape,
      product_append c.args.m.now.shape c.axes_of_fill.result.now,
      ap (λ n. n * product c.axes_of_fill.result.now) zero,
    )
