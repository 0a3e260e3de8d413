use Rattle.j_scans.proofs.Parts.{stretch_is}
use Rattle.j_scans.proofs.copying.stretch.Goals as goal

pub returns : goal.returns
returns g c = stretch_is c.args.size c.args.all.now c.args.span.start c.args.span.end c.requires.ordered
