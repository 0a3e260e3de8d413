use Rattle.std.proofs.Common.{◌≡◌, ◌++◌, ◌∷◌, [], List, Bor, rules}
use Rattle.std.specs.declared.cmp.Reverse.{Reverse}
use Rattle.j_search.specs.Graded.{IsKeyedBack}
use Rattle.j_search.proofs.Ranks.{keyed_more, keyed_all}
use Rattle.j_search.proofs.order.keyed_down.Goals as goal

pub loop-k-preserved : goal.loop-k-preserved
loop-k-preserved g c =
    let back : Reverse (Bor (List g.row.T.Denot)) = record { 0 = c.part.result } in
    let pushed : c.push.new.self.items ≡ c.loop-k.keys.items ++ (back, c.loop-k.k) ∷ [] = search rules in
    record {
      places = keyed_more c.loop-k.keys.items c.push.new.self.items back c.loop-k.k c.loop-k.invariant.places pushed;
      runs = keyed_all (IsKeyedBack c.args.size c.args.all.now) c.loop-k.keys.items c.push.new.self.items (back, c.loop-k.k) c.loop-k.invariant.runs c.part.ensures pushed;
    }
