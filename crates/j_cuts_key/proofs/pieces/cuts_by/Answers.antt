use Rattle.std.proofs.Common.{◌∙◌, ap, sym}
use Rattle.j_cuts_key.specs.Cuts.{frets_by}
use Rattle.j_cuts_key.proofs.Lists.{by_frets}
use Rattle.j_cuts_key.proofs.pieces.cuts_by.Goals as goal

pub returns : goal.returns
returns c = by_frets c.args.form c.args.x.now c.args.y.now c.in_ok-places.places.items (ap (frets_by c.args.x.now) (sym c.tally.ensures) ∙ c.in_ok-places.ensures.frets)
