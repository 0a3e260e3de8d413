use Rattle.std.proofs.Common.{◌*◌, ◌++◌, ◌∙◌, ap, arith, sym, length, drop}
use Rattle.j_definitions.specs.Array.{product}
use Rattle.j_rank.proofs.Products.{product_append}
use Rattle.j_indices.specs.Selecting.{cells_at}
use Rattle.j_indices.proofs.Answering.{answers}
use Rattle.j_indices.proofs.Runs.{cells_many, cells_long, cells_beyond}
use Rattle.j_indices.proofs.selecting.cells_at.Goals as goal

pub returns-in_default : goal.returns-in_default
returns-in_default c = cells_long c.args.frame c.args.n c.args.y.now c.args.places.now (omega (arith, c.in_default.ensures.err, ap length c.behind.ensures, ap (λ s. length (drop c.args.n s)) c.axes.ensures.value))

pub returns-in_default-size_within : goal.returns-in_default-size_within
returns-in_default-size_within c =
    cells_beyond c.args.frame c.args.n c.args.y.now c.args.places.now c.axes-2.result.now c.view.ensures.noun c.requires.frame c.requires.within
    (c.axes-2.ensures.value ∙ c.in-Ok.ensures.ok ∙ ap (λ s. c.args.frame ++ s) (c.behind.ensures ∙ ap (drop c.args.n) c.axes.ensures.value)) c.in_default-size_within.ensures

pub atoms_of_cells-requires-clause-total : goal.atoms_of_cells-requires-clause-total
atoms_of_cells-requires-clause-total c =
    c.in-Some.ensures.0 ∙ ap product (c.axes-2.ensures.value ∙ c.in-Ok.ensures.ok ∙ ap (λ s. c.args.frame ++ s) (c.behind.ensures ∙ ap (drop c.args.n) c.axes.ensures.value))
    ∙ product_append c.args.frame (drop c.args.n c.args.y.now.shape) ∙ ap (λ m. m * product (drop c.args.n c.args.y.now.shape)) c.requires.frame

pub make-requires-clause-as_many : goal.make-requires-clause-as_many
make-requires-clause-as_many c =
    ap length c.in_ok-atoms.ensures.atoms ∙ cells_many c.args.frame c.args.n c.args.y.now c.args.places.now c.view.ensures.noun c.requires.frame c.requires.within
    ∙ ap product (sym (c.in-Ok.ensures.ok ∙ ap (λ s. c.args.frame ++ s) (c.behind.ensures ∙ ap (drop c.args.n) c.axes.ensures.value)))

pub returns : goal.returns
returns c =
    answers c.in-Ok.shape c.in_ok-atoms.atoms (cells_at c.args.frame c.args.n c.args.y.now c.args.places.now) c.make.result
    (c.in-Ok.ensures.ok ∙ ap (λ s. c.args.frame ++ s) (c.behind.ensures ∙ ap (drop c.args.n) c.axes.ensures.value)) c.in_ok-atoms.ensures c.make.ensures.limited
