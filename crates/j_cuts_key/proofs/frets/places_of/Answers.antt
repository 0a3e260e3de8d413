use Rattle.std.proofs.Common.{◌≡◌, ◌++◌, ◌∷◌, [], get_or, nat_eq, ◌∙◌, rules, List, ℕ}
use Rattle.j_search.proofs.Picks.{filter_taken, filter_left}
use Rattle.j_cuts_key.proofs.frets.places_of.Goals as goal
use Rattle.j_cuts_key.proofs.frets.places_of.Goals.{then-here+in-Ok, else-here}

pub loop-k-preserved : goal.loop-k-preserved
loop-k-preserved c = elim c.if-here.branch [
  | then-here+in-Ok w ↦
      let pushed : c.if-here.places.items ≡ c.loop-k.places.items ++ c.loop-k.k ∷ [] = search rules in
      filter_taken (λ k. nat_eq c.args.sought (get_or c.args.text.now k 0)) c.loop-k.k c.loop-k.places.items c.if-here.places.items c.loop-k.invariant (search rules) pushed
  | else-here w ↦
      let same : c.if-here.places.items ≡ c.loop-k.places.items = search rules in
      same ∙ filter_left (λ k. nat_eq c.args.sought (get_or c.args.text.now k 0)) c.loop-k.k c.loop-k.places.items c.loop-k.invariant (search rules)
]
