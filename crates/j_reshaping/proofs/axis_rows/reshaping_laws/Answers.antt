use Rattle.j_reshaping.proofs.ShapeLaw.{shape_reshaped}
use Rattle.j_reshaping.proofs.axis_rows.reshaping_laws.Goals as goal

pub returns : goal.returns
returns c = shape_reshaped
