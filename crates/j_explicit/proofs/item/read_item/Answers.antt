use Rattle.std.proofs.Common.{sym, subst}
use Rattle.j_leaves.specs.Names.{name_of}
use Rattle.j_explicit.specs.Reading.{name_item, item_as, bytes_of}
use Rattle.j_explicit.specs.Refusals.{IsItem}
use Rattle.j_explicit.proofs.item.read_item.Goals as goal

pub returns-in-Name : goal.returns-in-Name
returns-in-Name c =
    subst (λ k. IsItem (item_as c.args.ranks k (bytes_of c.args.line.now c.args.word)) c.name_item.result) (sym c.in-Name.is)
    (subst (λ t. IsItem (name_item (name_of t)) c.name_item.result) c.bytes_of-bytes.ensures c.name_item.ensures)
