use Rattle.std.proofs.Common.{◌≡◌, ◌∷◌, [], length, rules}
use Rattle.j_cuts_key.proofs.Lists.{picked_is}
use Rattle.j_cuts_key.proofs.pieces.items_picked.Goals as goal

pub returns-in-Ok : goal.returns-in-Ok
returns-in-Ok c =
    let shape : c.shape_of.result ≡ length c.args.places.now ∷ [] = search rules in
    picked_is c.args.n c.args.y.now c.args.places.now c.shape_of.result c.in-Ok.piece shape c.in-Ok.ensures
