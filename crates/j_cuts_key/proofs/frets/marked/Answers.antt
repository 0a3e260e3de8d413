use Rattle.std.proofs.Common.{◌≡◌, ◌≤◌, ◌+◌, ◌++◌, ◌∷◌, [], length, false, get_or, sym, ap, ◌∙◌, subst, arith, rules, List, ℕ}
use Rattle.std.specs.List.{filter, range_with_len}
use Rattle.j_search.proofs.Picks.{filter_taken, filter_left}
use Rattle.j_cuts_key.specs.Kept.{IsRising}
use Rattle.j_cuts_key.proofs.Rising.{rising_filter}
use Rattle.j_cuts_key.proofs.frets.marked.Goals as goal
use Rattle.j_cuts_key.proofs.frets.marked.Goals.{then-marks-k+in-Ok, else-marks-k}

pub loop-k-preserved : goal.loop-k-preserved
loop-k-preserved c = elim c.if-marks-k.branch [
  | then-marks-k+in-Ok w ↦
      let pushed : c.if-marks-k.places.items ≡ c.loop-k.places.items ++ c.loop-k.k ∷ [] = search rules in
      filter_taken (λ k. get_or c.args.marks.now k false) c.loop-k.k c.loop-k.places.items c.if-marks-k.places.items c.loop-k.invariant (search rules) pushed
  | else-marks-k w ↦
      let same : c.if-marks-k.places.items ≡ c.loop-k.places.items = search rules in
      same ∙ filter_left (λ k. get_or c.args.marks.now k false) c.loop-k.k c.loop-k.places.items c.loop-k.invariant (search rules)
]

pub returns-clause-rising : goal.returns-clause-rising
returns-clause-rising c =
    let ended : c.loop-k.k ≤ length c.args.marks.now = omega arith in
    subst (λ (l : List ℕ). IsRising 0 (length c.args.marks.now) l) (sym c.loop-k.invariant) (rising_filter (λ k. get_or c.args.marks.now k false) 0 c.loop-k.k 0 (length c.args.marks.now) (omega arith) (omega arith))
