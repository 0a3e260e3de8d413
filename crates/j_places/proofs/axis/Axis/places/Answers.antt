use Rattle.std.proofs.Common.{sym}
use Rattle.j_places.proofs.AxisLaws.{places_many}
use Rattle.j_places.proofs.axis.Axis.places.Goals as goal

pub returns : goal.returns
returns c = sym (places_many c.args.self.now)
