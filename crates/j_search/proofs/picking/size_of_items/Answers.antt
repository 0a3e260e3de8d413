use Rattle.std.proofs.Common.{ap, ◌∙◌, length}
use Rattle.j_search.proofs.Picked.{item_size_is}
use Rattle.j_search.proofs.picking.size_of_items.Goals as goal

pub returns : goal.returns
returns c = λ some. item_size_is c.args.y.now.shape c.atom_count.result c.tally-count.result (c.atom_count.ensures ∙ ap length c.view.ensures.atoms ∙ c.view.ensures.noun.as_many) c.tally-count.ensures some
