use Rattle.std.proofs.Common.{◌++◌, ◌∙◌, ℕ, List, ap}
use Rattle.j_insert.proofs.Binary.{none_many}
use Rattle.j_insert.proofs.binaries.without_cells.Goals as goal

pub make-requires-clause-as_many : goal.make-requires-clause-as_many
make-requires-clause-as_many c =
    none_many c.args.y.now c.in_ok-shape.shape c.fill_digits.result.now c.in_ok-none.none.items c.view.ensures.noun c.requires
    (c.in_ok-shape.ensures.ok ∙ ap (λ (s : List ℕ). s ++ c.fill_digits.result.now) c.shape.ensures) c.in_ok-none.ensures.ok.0
