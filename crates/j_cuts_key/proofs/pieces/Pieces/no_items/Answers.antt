use Rattle.j_cuts_key.proofs.Lists.{no_items_answered}
use Rattle.j_cuts_key.proofs.pieces.Pieces.no_items.Goals as goal

pub returns : goal.returns
returns c = no_items_answered c.items_in.result c.self.inside.lines c.self.inside.items.now c.args.self.now c.self.view_is c.items_in.ensures
