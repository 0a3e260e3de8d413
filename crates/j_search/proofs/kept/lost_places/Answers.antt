use Rattle.std.proofs.Common.{◌≡◌, ◌++◌, ◌∷◌, [], sym, ◌∙◌, rules, get_or, pos}
use Rattle.std.specs.Ordering.{int_eq}
use Rattle.j_search.proofs.Picks.{filter_taken, filter_left}
use Rattle.j_search.proofs.kept.lost_places.Goals as goal
use Rattle.j_search.proofs.kept.lost_places.Goals.{then-is_place+in-Ok, else-is_place}

pub loop-k-preserved : goal.loop-k-preserved
loop-k-preserved c = elim c.if-is_place.branch [
  | then-is_place+in-Ok w ↦
      let pushed : c.if-is_place.lost.items ≡ c.loop-k.lost.items ++ c.loop-k.k ∷ [] = search rules in
      filter_taken (λ k. int_eq (get_or c.args.places.now k (pos 0)) (pos c.args.n)) c.loop-k.k c.loop-k.lost.items c.if-is_place.lost.items c.loop-k.invariant (sym w.if-is_place.ensures) pushed
  | else-is_place w ↦
      let same : c.if-is_place.lost.items ≡ c.loop-k.lost.items = search rules in
      same ∙ filter_left (λ k. int_eq (get_or c.args.places.now k (pos 0)) (pos c.args.n)) c.loop-k.k c.loop-k.lost.items c.loop-k.invariant (sym w.if-is_place.ensures)
]
