use Rattle.std.proofs.Common.{◌∙◌, ap, sym, length}
use Rattle.j_definitions.specs.Array.{product}
use Rattle.j_places.proofs.KeepLaws.{kept_many, kept_beyond}
use Rattle.j_places.proofs.axis_places.keep.Goals as goal

pub returns-in_default : goal.returns-in_default
returns-in_default c =
    kept_beyond c.args.y.now c.args.axes.now c.args.lengths.now _ c.requires.are c.requires.extents c.requires.many (c.axes.ensures.value ∙ c.kept_lengths-shape.ensures) c.in_default.ensures

pub make-requires-clause-as_many : goal.make-requires-clause-as_many
make-requires-clause-as_many c =
    ap length c.in_ok-atoms.ensures.atoms ∙ kept_many c.args.y.now c.args.axes.now c.args.lengths.now c.requires.are c.requires.extents c.requires.many ∙ ap product (sym c.kept_lengths-shape.ensures)
