use Rattle.std.proofs.Common.{arith}
use Rattle.j_places.proofs.MadeLaws.{curtailed_is}
use Rattle.j_places.proofs.item_places.curtail.Goals as goal

pub returns : goal.returns
returns c = curtailed_is c.args.y.now c.saturating_sub.result c.items_from.result (omega (arith, c.saturating_sub.ensures, c.tally.ensures)) c.items_from.ensures
