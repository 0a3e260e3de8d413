use Rattle.std.proofs.Common.{◌≡◌, drop}
use Rattle.std.specs.Cmp.Lexicographic.{pointwise}
use Rattle.j_definitions.specs.Array.{level, arrays_match}
use Rattle.j_noun.proofs.noun.Noun.+matches.Given as goal

abbrev pub decreases-matches : goal.decreases-matches
decreases-matches l = level l.self.now

abbrev pub invariant-loop-i : goal.invariant-loop-i
invariant-loop-i l = pointwise arrays_match l.x l.y ≡ pointwise arrays_match (drop l.i l.x) (drop l.i l.y)
