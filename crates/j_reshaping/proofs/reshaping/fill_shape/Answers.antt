use Rattle.std.proofs.Common.{◌∙◌}
use Rattle.j_definitions.specs.Array.{product}
use Rattle.j_rank.proofs.Made.{answers_as}
use Rattle.j_reshaping.proofs.Shapes.{wanted, size_of, past_atoms, filled_many, filled}
use Rattle.j_reshaping.proofs.reshaping.fill_shape.Goals as goal

pub returns-in_default : goal.returns-in_default
returns-in_default c = past_atoms c.args.lengths.now c.args.y.now _ c.view.ensures.noun c.requires.items (c.axes.ensures.value ∙ c.requires.shape) c.in_default.ensures

pub make-requires-clause-as_many : goal.make-requires-clause-as_many
make-requires-clause-as_many c =
    let size = size_of c.args.lengths.now c.args.y.now _ _ (c.axes.ensures.value ∙ c.requires.shape) c.in-Some.ensures.0 in
    filled_many c.args.lengths.now c.args.y.now c.args.shape _ c.view.ensures.noun c.requires.items c.requires.shape
    (c.in_ok-atoms.ensures (product c.args.lengths.now) size (wanted c.args.lengths.now c.args.y.now c.requires.items))

pub make-requires-clause-bits : goal.make-requires-clause-bits
make-requires-clause-bits c =
    let size = size_of c.args.lengths.now c.args.y.now _ _ (c.axes.ensures.value ∙ c.requires.shape) c.in-Some.ensures.0 in
    (c.in_ok-atoms.ensures (product c.args.lengths.now) size (wanted c.args.lengths.now c.args.y.now c.requires.items)).bits

pub returns : goal.returns
returns c =
    let size = size_of c.args.lengths.now c.args.y.now _ _ (c.axes.ensures.value ∙ c.requires.shape) c.in-Some.ensures.0 in
    answers_as _ _ c.make.result
    (filled c.args.lengths.now c.args.y.now c.args.shape _ c.requires.shape (c.in_ok-atoms.ensures (product c.args.lengths.now) size (wanted c.args.lengths.now c.args.y.now c.requires.items))) c.make.ensures.limited
