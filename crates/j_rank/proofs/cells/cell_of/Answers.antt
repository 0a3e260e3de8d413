use Rattle.std.proofs.Common.{◌∙◌, ap, length, drop, refl, sym}
use Rattle.j_definitions.specs.Array.{product}
use Rattle.j_noun.specs.Viewed.{viewed}
use Rattle.j_rank.proofs.Parts.{run_fits, rest_of, part_length}
use Rattle.j_rank.proofs.cells.cell_of.Goals as goal

pub atoms_of_part-requires-clause-within : goal.atoms_of_part-requires-clause-within
atoms_of_part-requires-clause-within c =
    run_fits c.args.y.now.shape c.args.n c.args.k c.in-Some.size (length (viewed c.view-atoms.result)) c.requires.place
    (c.in-Some.ensures.0 ∙ ap product (rest_of c.axes-axes.result.now c.args.n) ∙ ap (λ s. product (drop c.args.n s)) c.axes-axes.ensures.value)
    (ap length c.view-atoms.ensures.atoms ∙ c.view-atoms.ensures.noun.as_many)

pub make-requires-clause-as_many : goal.make-requires-clause-as_many
make-requires-clause-as_many c =
    let fits = run_fits c.args.y.now.shape c.args.n c.args.k c.in-Some.size (length (viewed c.view-atoms.result)) c.requires.place
    (c.in-Some.ensures.0 ∙ ap product (rest_of c.axes-axes.result.now c.args.n) ∙ ap (λ s. product (drop c.args.n s)) c.axes-axes.ensures.value)
    (ap length c.view-atoms.ensures.atoms ∙ c.view-atoms.ensures.noun.as_many) in
    ap length c.in_ok-taken.ensures.atoms ∙ part_length (viewed c.view-atoms.result) _ c.args.k c.in-Some.size fits refl ∙ c.in-Some.ensures.0 ∙ ap product (sym c.shape_of.ensures)
