use Rattle.std.proofs.Common.{length}
use Rattle.std.proofs.lemmas.List.{take_rest}
use Rattle.j_places.proofs.KeepLaws.{shape_made}
use Rattle.j_places.proofs.axis_places.kept_lengths.Goals as goal

pub returns : goal.returns
returns c =
    shape_made c.args.axes.now c.args.lengths.now _ c.loop-axis.shape c.in-Ok-extended.shape c.loop-axis.axis-index c.loop-axis-test.false c.requires.few c.loop-axis.invariant (take_rest c.args.lengths.now (length c.args.axes.now))
    c.in-Ok-extended.ensures.ok
