use Rattle.std.proofs.Common.{◌≡◌, ◌++◌, ◌∙◌, ap, sym, arith, drop, length}
use Rattle.j_definitions.specs.Array.{product}
use Rattle.j_rank.proofs.Products.{product_append}
use Rattle.j_indices.specs.Selecting.{cells_at}
use Rattle.j_indices.proofs.Answering.{answers}
use Rattle.j_indices.proofs.Taken.{runs_none}
use Rattle.j_indices.proofs.axes.no_cells.Goals as goal

pub make-requires-clause-as_many : goal.make-requires-clause-as_many
make-requires-clause-as_many c =
    let shape : c.in-Ok.shape ≡ c.args.frame ++ drop c.args.n c.args.y.now.shape = c.in-Ok.ensures.ok ∙ ap (λ s. c.args.frame ++ s) (c.behind.ensures ∙ ap (drop c.args.n) c.axes.ensures.value) in
    omega (arith, ap length c.in_ok-none.ensures.atoms, ap product shape, product_append c.args.frame (drop c.args.n c.args.y.now.shape), c.requires.empty)

pub returns : goal.returns
returns c = λ ks.
    answers c.in-Ok.shape c.in_ok-none.none (cells_at c.args.frame c.args.n c.args.y.now ks) c.make.result
    (c.in-Ok.ensures.ok ∙ ap (λ s. c.args.frame ++ s) (c.behind.ensures ∙ ap (drop c.args.n) c.axes.ensures.value))
    (record {
      kind = c.in_ok-none.ensures.kind ∙ c.kind.ensures;
      atoms = c.in_ok-none.ensures.atoms ∙ sym (runs_none c.args.y.now c.args.n ks c.requires.none);
      bits = c.in_ok-none.ensures.bits;
    }) c.make.ensures.limited
