use Rattle.std.proofs.Common.{◌≡◌, ◌++◌, ◌∷◌, [], rules}
use Rattle.j_search.specs.Graded.{IsKeyed}
use Rattle.j_search.proofs.Ranks.{keyed_more, keyed_all}
use Rattle.j_search.proofs.order.keyed_up.Goals as goal

pub loop-k-preserved : goal.loop-k-preserved
loop-k-preserved g c =
    let pushed : c.push.new.self.items ≡ c.loop-k.keys.items ++ (c.part.result, c.loop-k.k) ∷ [] = search rules in
    record {
      places = keyed_more c.loop-k.keys.items c.push.new.self.items c.part.result c.loop-k.k c.loop-k.invariant.places pushed;
      runs = keyed_all (IsKeyed c.args.size c.args.all.now) c.loop-k.keys.items c.push.new.self.items (c.part.result, c.loop-k.k) c.loop-k.invariant.runs c.part.ensures pushed;
    }
