use Rattle.std.proofs.Common.{◌≡◌, ◌++◌, ◌∷◌, [], pos, rules}
use Rattle.j_search.proofs.Runs.{place_more}
use Rattle.j_search.proofs.seeking.find_each.Goals as goal

pub loop-k-preserved : goal.loop-k-preserved
loop-k-preserved g c =
    let pushed : c.push.new.self.items ≡ c.loop-k.places.items ++ pos c.find-place.result ∷ [] = search rules in
    place_more g.T.Key.same c.args.side c.args.sizes.size c.args.sizes.items c.loop-k.k c.args.items.now c.args.cells.now c.part.result.now c.find-place.result c.loop-k.places.items c.push.new.self.items
    c.loop-k.invariant c.part.ensures c.find-place.ensures.value pushed
