use Rattle.std.proofs.Common.{◌≡◌, ◌∙◌, ap, sym, length}
use Rattle.j_definitions.specs.Array.{product}
use Rattle.j_noun.specs.Held.{atoms_kept}
use Rattle.j_kernels.proofs.Framing.{made_answers, refused_answers}
use Rattle.j_kernels.proofs.frames.shaped_like.Goals as goal

pub make-requires-clause-as_many : goal.make-requires-clause-as_many
make-requires-clause-as_many c =
    let many : length (atoms_kept c.in-Ok.results) ≡ product c.args.y.now.shape = rw c.in-Ok.is at c.requires.many in
    many ∙ ap product (sym c.shape.ensures)

pub returns-in-Ok : goal.returns-in-Ok
returns-in-Ok c = λ q is.
    let many : length (atoms_kept c.in-Ok.results) ≡ product c.args.y.now.shape = rw c.in-Ok.is at c.requires.many in
    made_answers c.args.y.now q c.shape.result c.in-Ok.results c.make.result c.requires.noun c.shape.ensures (rw c.in-Ok.is at is) many c.make.ensures.ok c.make.ensures.err

pub returns-in-Err : goal.returns-in-Err
returns-in-Err c = λ q is. refused_answers c.args.y.now.shape q c.in-Err.e (rw c.in-Err.is at is)
